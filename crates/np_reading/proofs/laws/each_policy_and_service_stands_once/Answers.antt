use Rattle.np_reading.proofs.OnceLemmas.{each_once}
use Rattle.np_reading.proofs.laws.each_policy_and_service_stands_once.Goals as goal

pub returns : goal.returns
returns c = each_once
