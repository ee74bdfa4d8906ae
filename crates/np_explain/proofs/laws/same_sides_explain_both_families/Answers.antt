use Rattle.np_explain.proofs.ExplanationLemmas.{same_sides-right}
use Rattle.np_explain.proofs.laws.same_sides_explain_both_families.Goals as goal

pub returns : goal.returns
returns c = same_sides-right
