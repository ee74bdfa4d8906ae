use Rattle.std.proofs.Common.{List, subst, sym}
use Rattle.np_exposure.proofs.FillLemmas.{Fills-push}
use Rattle.np_exposure.specs.Prelude.{Fills, Pending}
use Rattle.np_exposure.proofs.pending.all_joined.Goals as goal

pub loop-case-preserved : goal.loop-case-preserved
loop-case-preserved c = λ made fills.
    c.loop-case.invariant made
    (subst (λ (all : List Pending). Fills all c.loop-case.rows.items made) (sym c.in-Some.ensures.items)
    (Fills-push c.pop.new.self.items c.in-Some.case c.loop-case.rows.items c.in_ok-rows.rows.items made c.in_ok-rows.ensures fills))
