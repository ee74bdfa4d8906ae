use Rattle.np_explain.proofs.ExplanationLemmas.{explanation-right, right-alike}
use Rattle.np_explain.proofs.laws.explanations_are_right.Goals as goal

pub returns : goal.returns
returns c = record { right = explanation-right; alike = right-alike }
