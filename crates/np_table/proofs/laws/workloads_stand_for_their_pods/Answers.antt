use Rattle.np_kinds.proofs.PairLemmas.{between_pods-pair_allows, with_address-address_allows}
use Rattle.np_table.proofs.laws.workloads_stand_for_their_pods.Goals as goal

pub returns-clause-pairs : goal.returns-clause-pairs
returns-clause-pairs c = between_pods-pair_allows

pub returns-clause-addresses : goal.returns-clause-addresses
returns-clause-addresses c = with_address-address_allows
