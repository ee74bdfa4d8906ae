-- The side of a pod in a direction, by the pod's place in an estate: what it looks at, and what a layer of it is.
use Rattle.std.specs.Prelude.{◌≡◌, ℕ, ◌<◌, List, length, Bool, true, map}
use Rattle.np_addr.specs.Prelude.{family_of}
use Rattle.np_rules.specs.Types.{Address, AdminRule, Direction, EstateLists, Family, Four, Layer, NetRule, PolicyRules, PortSpot, Stranger}
use Rattle.np_model.specs.Prelude.{HasAscendingPriorities}
use Rattle.np_rules.specs.model.Ends.{Contact, PodEnd, pod, address, contact, stranger_end}
use Rattle.np_rules.specs.EveryAddress.{AddressSpot, address_contact}
use Rattle.np_rules.specs.Layers.{IsLayer}
use Rattle.np_rules.specs.model.NetTier.{is_isolated}
use Rattle.np_rules.specs.model.Places.{admin_places, base_places, net_places, rule_count}
use Rattle.np_rules.specs.model.Sides.{side_allows}
use Rattle.np_rules.specs.model.Verdict.{pod_at}
use Rattle.np_rules.specs.PolicyRules.{AreIsolating, AreSelecting}
use Rattle.np_tiers.specs.Prelude.{walk_allows}

-- a pod of an estate, by its place, and a direction
pub record PodSide : Type 0 where
  pub lists : EstateLists
  pub pod : ℕ
  pub direction : Direction

abbrev pub side_of : EstateLists → ℕ → Direction → PodSide
side_of lists place direction = record { lists = lists; pod = place; direction = direction }

-- the pod, as rules see it
abbrev pub near_pod : PodSide → PodEnd
near_pod side = pod_at side.lists side.pod

-- how many rules speak of it
abbrev pub side_rule_count : PodSide → ℕ
side_rule_count side = rule_count side.lists side.direction (near_pod side)

-- ---- what the side looks at, by the far end

-- another pod, in packets of a family
abbrev pub with_pod : ℕ → Family → PodSide → PortSpot → Contact
with_pod peer family side = contact side.direction (pod (near_pod side)) (pod (pod_at side.lists peer)) family

-- an address, which is taken as no pod's, even where a listed pod has it
abbrev pub with_point : Address → PodSide → PortSpot → Contact
with_point a side = contact side.direction (pod (near_pod side)) (address a) (family_of a)

-- a pod that nobody has written yet, which has no address, so that the family changes nothing
abbrev pub with_stranger : Stranger → PodSide → PortSpot → Contact
with_stranger s side = contact side.direction (pod (near_pod side)) (pod (stranger_end s)) Four

-- each address of both families
abbrev pub with_addresses : PodSide → AddressSpot → Contact
with_addresses side = address_contact side.direction (pod (near_pod side))

-- ---- what a layer of the side is, where the spots of its sets stand for what the side looks at

-- its parts are the rules that speak of the pod
abbrev pub IsSideLayer : {S Spot : Type 0} → (S → Spot → Bool) → (Spot → Bool) → PodSide → (PodSide → Spot → Contact) → Layer S → Type 0
IsSideLayer has in_space side looks_at = IsLayer has in_space (looks_at side) side.lists side.direction (near_pod side)

-- at each spot its walk says what the side says
abbrev pub SaysVerdicts : {S Spot : Type 0} → (S → Spot → Bool) → (Spot → Bool) → PodSide → (PodSide → Spot → Contact) → Layer S → Type 0
SaysVerdicts {S} {Spot} has in_space side looks_at made =
    (spot : Spot) → in_space spot ≡ true → walk_allows (λ set. has set spot) made ≡ side_allows side.lists side.direction (near_pod side) (looks_at side spot)

-- ---- what is kept of a side

-- The pod is one of the estate. The policies that speak of it are kept with their rules, and the rules of the baseline.
pub record KeepsPolicies (side : PodSide) (admin : List (PolicyRules AdminRule)) (net : List (PolicyRules NetRule)) (base : List AdminRule) : Type 0 where
  pub place : side.pod < length side.lists.pods
  pub selecting : AreSelecting side.lists.admin_policies side.direction (near_pod side) admin
  pub isolating : AreIsolating side.lists.net_policies side.direction (near_pod side) net
  pub base_rules : base ≡ map (λ placed. placed.rule) (base_places side.lists.baseline side.direction (near_pod side))
  pub ascending : HasAscendingPriorities side.lists.admin_policies

-- The pod is one of the estate. The rules of the policies that select it are kept tier by tier, in the order of the
-- estate, and whether some NetworkPolicy isolates it.
pub record KeepsRules (side : PodSide) (admin : List AdminRule) (isolated : Bool) (net : List NetRule) (base : List AdminRule) : Type 0 where
  pub place : side.pod < length side.lists.pods
  pub admin_rules : admin ≡ map (λ placed. placed.rule) (admin_places side.lists.admin_policies side.direction (near_pod side))
  pub isolation : isolated ≡ is_isolated side.lists.net_policies side.direction (near_pod side)
  pub net_rules : net ≡ map (λ placed. placed.rule) (net_places side.lists.net_policies side.direction (near_pod side))
  pub base_rules : base ≡ map (λ placed. placed.rule) (base_places side.lists.baseline side.direction (near_pod side))
  pub ascending : HasAscendingPriorities side.lists.admin_policies
