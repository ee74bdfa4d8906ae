use Rattle.np_meaning.proofs.SelectorLemmas.{selector_met}
use Rattle.np_meaning.proofs.policy_laws.selectors_mean_their_members.Goals as goal

pub returns : goal.returns
returns c = selector_met
