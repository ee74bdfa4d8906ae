use Rattle.np_explain.proofs.RightPartsLemmas.{made_are_right, right_is_made}
use Rattle.np_explain.proofs.laws.right_parts_are_these.Goals as goal

pub returns-clause-right : goal.returns-clause-right
returns-clause-right c = made_are_right

pub returns-clause-only : goal.returns-clause-only
returns-clause-only c = right_is_made
