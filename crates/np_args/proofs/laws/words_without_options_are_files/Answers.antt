use Rattle.np_args.proofs.FileCommandLemmas.{flatten_files, unused_files}
use Rattle.np_args.proofs.TableLemmas.{plain_job}
use Rattle.np_args.proofs.laws.words_without_options_are_files.Goals as goal

pub returns : goal.returns
returns c = record { list = plain_job; unused = unused_files; flatten = flatten_files }
