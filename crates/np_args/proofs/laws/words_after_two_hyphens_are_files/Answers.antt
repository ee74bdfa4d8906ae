use Rattle.np_args.proofs.TableLemmas.{split_job}
use Rattle.np_args.proofs.laws.words_after_two_hyphens_are_files.Goals as goal

pub returns : goal.returns
returns c = split_job
