use Rattle.np_args.proofs.ValueOptionLemmas.{format_apart_job, format_joined_job, no_format_job}
use Rattle.np_args.proofs.laws.format_is_read_after_its_option.Goals as goal

pub returns : goal.returns
returns c = record { apart = format_apart_job; joined = format_joined_job; refused = no_format_job }
