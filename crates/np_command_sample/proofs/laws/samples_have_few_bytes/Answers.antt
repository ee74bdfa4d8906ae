use Rattle.np_command_sample.proofs.SizeLemmas.{length-sample_text}
use Rattle.np_command_sample.proofs.laws.samples_have_few_bytes.Goals as goal

pub returns : goal.returns
returns c = length-sample_text
