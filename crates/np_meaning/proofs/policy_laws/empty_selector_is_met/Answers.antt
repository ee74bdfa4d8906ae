use Rattle.std.proofs.Common.{refl}
use Rattle.np_json.specs.Prelude.{listed, must_be_object, optional, refuse_if, under}
use Rattle.np_policies.specs.Prelude.{selector}
use Rattle.np_meaning.proofs.policy_laws.empty_selector_is_met.Goals as goal

pub returns-clause-read : goal.returns-clause-read
unfolding selector must_be_object refuse_if optional listed under
returns-clause-read c = refl
