use Rattle.np_args.proofs.SettingLemmas.{settings_job}
use Rattle.np_args.proofs.laws.two_options_are_both_read.Goals as goal

pub returns : goal.returns
returns c = settings_job
