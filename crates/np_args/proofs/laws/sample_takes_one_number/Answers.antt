use Rattle.np_args.proofs.SampleLemmas.{no_number, no_word, sampled, two_words}
use Rattle.np_args.proofs.laws.sample_takes_one_number.Goals as goal

pub returns : goal.returns
returns c = record { number = sampled; other = no_number; none = no_word; two = two_words }
