use Rattle.np_command_explain.proofs.OneTextLemmas.{one-text}
use Rattle.np_command_explain.proofs.laws.one_text_says_what_decides.Goals as goal

pub returns : goal.returns
returns c = one-text
