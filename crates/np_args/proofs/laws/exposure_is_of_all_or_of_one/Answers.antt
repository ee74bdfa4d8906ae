use Rattle.np_args.proofs.ExposureLemmas.{all_exposed, exposed_format, exposed_workload}
use Rattle.np_args.proofs.laws.exposure_is_of_all_or_of_one.Goals as goal

pub returns : goal.returns
returns c = record { all = all_exposed; one = exposed_workload; format = exposed_format }
