use Rattle.std.proofs.Common.{ap, ◌∙◌}
use Rattle.std.proofs.lemmas.Result.{IfOk-weaker}
use Rattle.np_conns.specs.Prelude.{Conns, has_spot}
use Rattle.np_conns.proofs.MeetLemmas.{all_met, met_all}
use Rattle.np_conns.proofs.conn_set.ConnSetCells.meet.Goals as goal

pub returns-then-has_left-clause-members : goal.returns-then-has_left-clause-members
returns-then-has_left-clause-members c = IfOk-weaker c.copy.result _ _
    (λ made is spot. ap (λ (set : Conns). has_spot set spot) is
    ∙ met_all c.args.self.now c.args.other.now spot (rw c.ports-left.ensures at c.is_everything-has_right.ensures.well) (rw c.ports-right.ensures at c.if-has_left.ensures.answer spot))
    c.copy.ensures.equal

pub returns-then-has_right-clause-members : goal.returns-then-has_right-clause-members
returns-then-has_right-clause-members c = IfOk-weaker c.copy-then-has_right.result _ _
    (λ made is spot. ap (λ (set : Conns). has_spot set spot) is
    ∙ all_met c.args.other.now c.args.self.now spot (rw c.ports-right.ensures at c.is_everything-has_left.ensures.well) (rw c.ports-left.ensures at c.if-has_right.ensures.answer spot))
    c.copy-then-has_right.ensures.equal
