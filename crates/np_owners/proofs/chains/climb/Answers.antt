use Rattle.std.proofs.Common.{length, ◌+◌, ◌-◌, None, arith, ◌∙◌}
use Rattle.np_owners.proofs.Walks.{up_at, up_within, chain_some}
use Rattle.np_owners.proofs.chains.climb.Goals as goal

pub loop-step-preserved : goal.loop-step-preserved
loop-step-preserved c =
    let ups = c.args.ups.now in
    let so_far = c.loop-step.invariant in
    let here = up_at ups c.loop-step.at None so_far.0 ∙ c.in-Some.is in (
      up_within ups c.requires.chains _ _ so_far.0 here,
      rw (chain_some ups (length ups - c.loop-step._step) (length ups - (c.loop-step._step + 1)) c.loop-step.at c.in-Some.above (omega arith) here) at so_far.1,
    )
