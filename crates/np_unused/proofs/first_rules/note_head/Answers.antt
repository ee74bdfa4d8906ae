use Rattle.std.proofs.Common.{◌≡◌, ◌<◌, true, length, subst, sym, arith}
use Rattle.std.proofs.lemmas.Grind.{common_steps}
use Rattle.std.proofs.lemmas.Result.{IfOk-weaker}
use Rattle.np_unused.proofs.NoteLemmas.{head_only}
use Rattle.np_unused.specs.Prelude.{RuleSpots}
use Rattle.np_unused.proofs.first_rules.note_head.Goals as goal

pub returns-clause-only : goal.returns-clause-only
returns-clause-only g c =
    let head = c.index-rules-0.result in
    let none : length c.args.above.now ≡ 0 = grind (arith, common_steps) in
    let there : 0 < length c.args.rules.now = grind (arith, common_steps) in
    IfOk-weaker c.set.result _ _
    (λ _ sets policy place. head_only g.S.Cells.has g.S.Cells.in_space head c.args.flags.now c.set.new.self sets policy place c.args.above.now c.args.rules.now none there c.index-rules-0.is
    (subst (λ (one : RuleSpots g.row.S.Denot). (spot : g.row.S-Spot.Denot) × (g.S.Cells.in_space spot ≡ true) × (g.S.Cells.has one.set.now spot ≡ true)) (sym c.index-rules-0.is)
    (c.requires 0 head there)))
    c.set.ensures
