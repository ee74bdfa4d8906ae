-- When a statement holds, for the pods and the addresses that its line names.
use Rattle.std.specs.Prelude.{◌≡◌, ◌≢◌, ◌<◌, ℕ, true, Contains, length}
use Rattle.np_addr.specs.Prelude.{IsAddress, family_of}
use Rattle.np_statements.specs.Types.{Address, EndForm, EstateLists, Family, PortSpot, StatementLine, StatementText}
use Rattle.np_check.specs.Prelude.{complies, number_of_address}
use Rattle.np_conns.specs.Prelude.{has_spot, is_spot}
use Rattle.np_model.specs.Prelude.{families_of}
use Rattle.np_model.specs.declared.direction.Direction.TheVariants.{Egress, Ingress}
use Rattle.np_rules.specs.Prelude.{pod, pod_at}
use Rattle.np_statements.specs.NamedEnds.{NamesAddress, NamesPod}
use Rattle.np_kinds.specs.Prelude.{between_pods, with_address}

-- a place of a pod that the form names
abbrev pub IsNamedPod : EstateLists → EndForm → ℕ → Type 0
IsNamedPod lists form place = (place < length lists.pods) × NamesPod lists form place

-- an address that it names
abbrev pub IsNamedAddress : EndForm → Address → Type 0
IsNamedAddress form address = IsAddress address × NamesAddress form address

-- a protocol and port of the statement
abbrev pub IsAtPort : StatementText → PortSpot → Type 0
IsAtPort statement spot = (is_spot spot ≡ true) × (has_spot statement.conns spot ≡ true)

-- Every packet from what its source names to what its destination names complies: between every two different pods in
-- each family of the list, and with every address in its own family.
pub record StatementHolds (lists : EstateLists) (statement : StatementText) : Type 0 where
  pub pods : (p q : ℕ) (family : Family) (spot : PortSpot) → IsNamedPod lists statement.source p → IsNamedPod lists statement.destination q → p ≢ q
      → Contains (families_of lists.pods) family → IsAtPort statement spot → complies statement.wanted (between_pods lists p q family spot) ≡ true
  pub to_addresses : (p : ℕ) (address : Address) (spot : PortSpot) → IsNamedPod lists statement.source p → IsNamedAddress statement.destination address → IsAtPort statement spot
      → complies statement.wanted (with_address lists Egress (pod (pod_at lists p)) (family_of address) (number_of_address address) spot) ≡ true
  pub from_addresses : (address : Address) (q : ℕ) (spot : PortSpot) → IsNamedAddress statement.source address → IsNamedPod lists statement.destination q → IsAtPort statement spot
      → complies statement.wanted (with_address lists Ingress (pod (pod_at lists q)) (family_of address) (number_of_address address) spot) ≡ true

-- the statement of a line holds
abbrev pub LineHolds : EstateLists → StatementLine → Type 0
LineHolds lists line = StatementHolds lists line.statement
