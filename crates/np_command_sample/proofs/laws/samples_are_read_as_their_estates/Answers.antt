use Rattle.np_command_sample.proofs.SampleLemmas.{estate_of-sample}
use Rattle.np_command_sample.proofs.laws.samples_are_read_as_their_estates.Goals as goal

pub returns : goal.returns
returns c = estate_of-sample
