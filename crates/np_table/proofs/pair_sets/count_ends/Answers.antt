use Rattle.std.proofs.Common.{◌≡◌, ◌+◌, ◌*◌, ℕ, ap, arith, length, ◌∙◌}
use Rattle.np_rules.specs.Prelude.{side_rule_count}
use Rattle.np_table.proofs.pair_sets.count_ends.Goals as goal

pub loop-family-preserved : goal.loop-family-preserved
loop-family-preserved g c = omega (arith, c.loop-family.invariant, c.count.ensures, c.count-in-loop-family.ensures)

pub returns : goal.returns
returns g c =
    let all : c.loop-family._family-index ≡ length c.args.families.now = omega (arith, c.loop-family-test.false, c.loop-family.auto._family-index-end) in
    c.loop-family.invariant ∙ ap (λ (n : ℕ). c.args.steps.now + n * (side_rule_count c.args.sender.now + side_rule_count c.args.receiver.now)) all
