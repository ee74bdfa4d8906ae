use Rattle.np_command_list.proofs.OneTextLemmas.{one-text}
use Rattle.np_command_list.proofs.laws.one_text_says_what_passes.Goals as goal

pub returns : goal.returns
returns c = one-text
