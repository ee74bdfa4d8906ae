use Rattle.np_args.proofs.OptionLemmas.{twice_job}
use Rattle.np_args.proofs.laws.options_given_twice_ask_for_nothing.Goals as goal

pub returns : goal.returns
returns c = twice_job
