use Rattle.std.proofs.Common.{◌||◌, ◌&&◌, Bool, ap, sym, subst, ◌∙◌}
use Rattle.std.proofs.Math.Bool.{or-false}
use Rattle.np_base.proofs.Lists.{list_any-next}
use Rattle.np_conns.specs.Prelude.{Conns, IsConns, has_spot}
use Rattle.np_explain.specs.Prelude.{Part}
use Rattle.np_rules.specs.Prelude.{decider_allows}
use Rattle.np_explain.proofs.explanation.allowed.Goals as goal
use Rattle.np_explain.proofs.explanation.allowed.Goals.{else-allows, then-allows+in_ok-set-2}

pub loop-part-preserved : goal.loop-part-preserved
loop-part-preserved c =
    let part = c.part-item.result in
    let so_far = c.loop-part.invariant.members in
    elim c.if-allows.branch [
      | then-allows+in_ok-set-2 w ↦ record {
        members = λ spot. list_any-next (λ (p : Part). decider_allows p.decider && has_spot p.conns spot) c.args.parts.now c.loop-part.part-index part (has_spot c.loop-part.set spot) _
            c.loop-part-test.true c.part-item.is (so_far spot)
            (ap (λ (set : Conns). has_spot set spot) w.set-is ∙ w.in_ok-set-2.ensures.members spot
            ∙ ap (λ (b : Bool). has_spot c.loop-part.set spot || (b && has_spot part.conns spot)) (sym w.if-allows.true ∙ c.allows.ensures));
        well = subst IsConns (sym w.set-is) w.in_ok-set-2.ensures.well;
      }
      | else-allows w ↦ record {
        members = λ spot. list_any-next (λ (p : Part). decider_allows p.decider && has_spot p.conns spot) c.args.parts.now c.loop-part.part-index part (has_spot c.loop-part.set spot) _
            c.loop-part-test.true c.part-item.is (so_far spot)
            (ap (λ (set : Conns). has_spot set spot) w.set-is ∙ sym (or-false (has_spot c.loop-part.set spot))
            ∙ ap (λ (b : Bool). has_spot c.loop-part.set spot || (b && has_spot part.conns spot)) (sym w.if-allows.false ∙ c.allows.ensures));
        well = subst IsConns (sym w.set-is) c.loop-part.invariant.well;
      }
    ]
