use Rattle.np_args.proofs.WordLemmas.{format-one_word, report-one_word, side-one_word}
use Rattle.np_args.proofs.laws.values_have_one_word.Goals as goal

pub returns : goal.returns
returns c = record { format = format-one_word; report = report-one_word; side = side-one_word }
