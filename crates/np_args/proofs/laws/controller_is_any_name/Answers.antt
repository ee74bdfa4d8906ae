use Rattle.np_args.proofs.TableLemmas.{controller_apart_job, controller_joined_job}
use Rattle.np_args.proofs.laws.controller_is_any_name.Goals as goal

pub returns : goal.returns
returns c = record { apart = controller_apart_job; joined = controller_joined_job }
