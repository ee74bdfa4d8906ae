use Rattle.np_args.proofs.ValueOptionLemmas.{side_apart_job, side_joined_job, no_side_job}
use Rattle.np_args.proofs.laws.side_is_read_after_its_option.Goals as goal

pub returns : goal.returns
returns c = record { apart = side_apart_job; joined = side_joined_job; refused = no_side_job }
