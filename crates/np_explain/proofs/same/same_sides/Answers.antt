use Rattle.std.proofs.Common.{rules}
use Rattle.np_explain.proofs.ExplanationLemmas.{same_sides_told}
use Rattle.np_explain.proofs.same.same_sides.Goals as goal

pub returns-then-same_parts-clause-equal : goal.returns-then-same_parts-clause-equal
returns-then-same_parts-clause-equal c =
    same_sides_told c.args.one.now c.args.other.now c.same_parts-then-same_parts.result (search rules)

pub returns-else-same_parts-clause-equal : goal.returns-else-same_parts-clause-equal
returns-else-same_parts-clause-equal c =
    same_sides_told c.args.one.now c.args.other.now c.same_parts.result (search rules)
