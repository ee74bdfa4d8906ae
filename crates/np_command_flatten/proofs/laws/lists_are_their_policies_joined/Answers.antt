use Rattle.np_command_flatten.proofs.ListLemmas.{list_text-joined}
use Rattle.np_command_flatten.proofs.laws.lists_are_their_policies_joined.Goals as goal

pub returns : goal.returns
returns c = list_text-joined
