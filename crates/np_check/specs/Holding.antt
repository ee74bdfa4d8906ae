-- When a statement holds, pod by pod and address by address.
use Rattle.std.specs.Prelude.{◌≡◌, ◌≢◌, ◌<◌, ℕ, true, Contains, length}
use Rattle.np_addr.specs.Prelude.{IsAddress, family_of, set_has}
use Rattle.np_check.specs.Types.{Address, Egress, Ends, EstateLists, Family, Ingress, PortSpot, Question}
use Rattle.np_check.specs.Counterexamples.{complies, number_of_address}
use Rattle.np_conns.specs.Prelude.{has_spot, is_spot}
use Rattle.np_model.specs.Prelude.{families_of}
use Rattle.np_fold.specs.Prelude.{workload_number}
use Rattle.np_rules.specs.Prelude.{pod, pod_at}
use Rattle.np_kinds.specs.Prelude.{between_pods, with_address}

-- the pod at a place is one of the workloads of a side
abbrev pub IsOf : EstateLists → ℕ → Ends → Type 0
IsOf lists p ends = (p < length lists.pods) × Contains ends.works (workload_number lists p)

-- the address is one of a side
abbrev pub HasAddress : Ends → Address → Type 0
HasAddress ends address = IsAddress address × (set_has ends.block address ≡ true)

-- the statement speaks of the protocol and port
abbrev pub SpeaksOf : Question → PortSpot → Type 0
SpeaksOf question spot = (is_spot spot ≡ true) × (has_spot question.conns spot ≡ true)

-- Every packet from a pod or an address of the source to a pod or an address of the destination complies: between every
-- two different pods in each family of the list, and with every address in its own family.
pub record Holds (lists : EstateLists) (question : Question) : Type 0 where
  pub pods : (p q : ℕ) (family : Family) (spot : PortSpot) → IsOf lists p question.source → IsOf lists q question.destination → p ≢ q → Contains (families_of lists.pods) family
      → SpeaksOf question spot → complies question.wanted (between_pods lists p q family spot) ≡ true
  pub to_addresses : (p : ℕ) (address : Address) (spot : PortSpot) → IsOf lists p question.source → HasAddress question.destination address → SpeaksOf question spot
      → complies question.wanted (with_address lists Egress (pod (pod_at lists p)) (family_of address) (number_of_address address) spot) ≡ true
  pub from_addresses : (address : Address) (q : ℕ) (spot : PortSpot) → HasAddress question.source address → IsOf lists q question.destination → SpeaksOf question spot
      → complies question.wanted (with_address lists Ingress (pod (pod_at lists q)) (family_of address) (number_of_address address) spot) ≡ true
