use Rattle.std.proofs.Common.{rules}
use Rattle.std.proofs.lemmas.Result.{err_from_is_err_and}
use Rattle.np_io.proofs.Taking.{takes_on, took_front}
use Rattle.np_io.proofs.whole.write_whole.Goals as goal

pub returns-in_err-at-clause-front : goal.returns-in_err-at-clause-front
returns-in_err-at-clause-front g c =
    let failed = err_from_is_err_and c.from_residual.result c.from_residual.ensures.1 in
    rw failed.1 (took_front _ _ _ _ _ c.loop-at.invariant.took c.in_err-at.ensures.none_taken)

pub loop-at-preserved : goal.loop-at-preserved
loop-at-preserved g c = record {
  within = search rules;
  took = takes_on _ _ _ _ _ _ c.loop-at.invariant.took c.in_ok-at.ensures.taken;
  no_fault = search rules;
}
