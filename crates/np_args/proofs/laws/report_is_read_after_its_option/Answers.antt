use Rattle.np_args.proofs.TableLemmas.{no_report_job, report_apart_job, report_joined_job}
use Rattle.np_args.proofs.laws.report_is_read_after_its_option.Goals as goal

pub returns : goal.returns
returns c = record { apart = report_apart_job; joined = report_joined_job; refused = no_report_job }
