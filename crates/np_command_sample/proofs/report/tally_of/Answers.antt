use Rattle.std.proofs.Common.{◌≡◌, [], ◌∷◌, ap, arith, sym, ◌∙◌}
use Rattle.np_command_sample.proofs.CountLemmas.{counted-more, counted-none, few-more}
use Rattle.np_command_sample.proofs.report.tally_of.Goals as goal
use Rattle.np_command_sample.specs.Prelude.{counted}
use Rattle.np_command.proofs.StepLemmas.{none_given}

pub loop-rows-preserved : goal.loop-rows-preserved
loop-rows-preserved g c =
    let came : c.loop-rows.rows.rows ≡ c.in-Some.row ∷ c.next.new.self.rows = rw c.in-Some.is at c.in_ok-row.ensures.given in
    record {
      counts = counted-more c.loop-rows.tally c.count.new.self c.in-Some.row c.next.new.self.rows c.loop-rows.rows.rows came c.count.ensures ∙ c.loop-rows.invariant.counts;
      few = few-more c.loop-rows.tally c.count.new.self c.in-Some.row c.next.new.self.rows c.loop-rows.rows.rows _ came c.count.ensures c.loop-rows.invariant.few;
      least = omega (arith, c.loop-rows.invariant.least, c.in_ok-row.ensures.least);
      most = omega (arith, c.loop-rows.invariant.most, c.in_ok-row.ensures.counted);
    }

pub returns-clause-counts : goal.returns-clause-counts
returns-clause-counts g c =
    let done : c.loop-rows.rows.rows ≡ [] = none_given _ c.loop-rows.rows.rows c.next.new.self.rows c.in_ok-row.ensures.given c.in_default.not-Some in
    sym (counted-none c.loop-rows.tally) ∙ ap (counted c.loop-rows.tally) (sym done) ∙ c.loop-rows.invariant.counts
