use Rattle.np_args.proofs.OptionLemmas.{long_job, short_job}
use Rattle.np_args.proofs.laws.other_options_ask_for_nothing.Goals as goal

pub returns : goal.returns
returns c = record { short = short_job; long = long_job }
