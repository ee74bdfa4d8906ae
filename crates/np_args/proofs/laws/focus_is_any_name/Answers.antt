use Rattle.np_args.proofs.TableLemmas.{focus_apart_job, focus_joined_job}
use Rattle.np_args.proofs.laws.focus_is_any_name.Goals as goal

pub returns : goal.returns
returns c = record { apart = focus_apart_job; joined = focus_joined_job }
