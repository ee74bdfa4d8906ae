use Rattle.np_command_sample.proofs.RowCountLemmas.{length-rows-sample}
use Rattle.np_command_sample.proofs.laws.samples_have_few_rows.Goals as goal

pub returns : goal.returns
returns c = length-rows-sample
