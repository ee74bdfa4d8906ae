-- What holds of every estate that is read from JSON.
use Rattle.std.specs.Prelude.{◌≡◌, ℕ, ◌≤◌, ◌&&◌, not, nat_lt, List, [], ◌∷◌, map, filter, length, Bool, true, false, Some, All, AllPairs, codes, IsTrue}
use Rattle.std.specs.Cmp.Lexicographic.{slice_cmp}
use Rattle.std.specs.Ordering.{nat_cmp}
use Rattle.std.specs.declared.cmp.Ordering.{Ordering}
use Rattle.std.specs.declared.cmp.Ordering.TheVariants.{Less, Equal}
use Rattle.std.specs.List.{list_all}
use Rattle.std.specs.Option.{option_map_or}
use Rattle.std.specs.Str.{bytes_eq}
use Rattle.np_model.specs.Words.{is_name}
use Rattle.np_labels.specs.Prelude.{value_of}
use Rattle.np_model.specs.WellObjects.{is_well_labels, is_well_ports, is_well_service, is_well_ingress}
use Rattle.np_model.specs.Types.{AdminPolicy, NetPolicy, Pod, ServiceItem}
use Rattle.np_model.specs.WellPolicies.{is_well_net_policy, is_well_admin_policy, is_well_base_policy}
use Rattle.np_model.specs.declared.lists.EstateLists.{EstateLists}
use Rattle.np_model.specs.declared.placed_ingress.PlacedIngress.{PlacedIngress}

-- ---- admin policies

-- whether each number is below the one after it
abbrev pub ascends : List ℕ → Bool
ascends [] = true
ascends (n ∷ []) = true
ascends (n ∷ next ∷ ns) = nat_lt n next && ascends (next ∷ ns)

-- the admin policies ascend strictly in priority, so no two have the same
abbrev pub HasAscendingPriorities : List AdminPolicy → Type 0
HasAscendingPriorities policies = ascends (map (λ policy. policy.priority) policies) ≡ true

-- ---- pods

-- two objects are not of one namespace and one name
abbrev pub are_apart : List ℕ → List ℕ → List ℕ → List ℕ → Bool
are_apart namespace name namespace' name' = not (bytes_eq namespace namespace' && bytes_eq name name')

abbrev pub ArePodsApart : Pod → Pod → Type 0
ArePodsApart a b = IsTrue (are_apart a.namespace a.name b.namespace b.name)

-- pods of one namespace have the same labels of it
abbrev pub AgreeOnNamespace : Pod → Pod → Type 0
AgreeOnNamespace a b = a.namespace ≡ b.namespace → a.namespace_labels ≡ b.namespace_labels

-- the labels of its namespace say the namespace's name
abbrev pub SaysItsNamespace : Pod → Type 0
SaysItsNamespace pod = value_of pod.namespace_labels (codes "kubernetes.io/metadata.name") ≡ Some pod.namespace

-- ---- policies and services

-- whether the first order decides, or leaves it to the second
abbrev pub decides_before : Ordering → Ordering → Bool
decides_before Less second = true
decides_before Equal Less = true
decides_before first second = false

-- a policy stands before another: by its namespace, and in one namespace by its name, in the order of their bytes
abbrev pub PolicyStandsBefore : NetPolicy → NetPolicy → Type 0
PolicyStandsBefore a b = IsTrue (decides_before (slice_cmp nat_cmp a.namespace b.namespace) (slice_cmp nat_cmp a.name b.name))

abbrev pub AreNamesApart : AdminPolicy → AdminPolicy → Type 0
AreNamesApart a b = IsTrue (not (bytes_eq a.name b.name))

abbrev pub AreServicesApart : ServiceItem → ServiceItem → Type 0
AreServicesApart a b = IsTrue (are_apart a.namespace a.name b.namespace b.name)

-- an ingress's item comes before another's
abbrev pub IsEarlierItem : PlacedIngress → PlacedIngress → Type 0
IsEarlierItem a b = IsTrue (nat_lt a.item b.item)

-- ---- names and words

-- names are names, keys and values of labels words, and names of ports words that are not empty
abbrev pub is_well_pod : Pod → Bool
is_well_pod pod =
    is_name pod.namespace && is_name pod.name && is_well_labels pod.namespace_labels && is_well_labels pod.labels
    && is_well_ports pod.ports && is_name pod.owner.kind && is_name pod.owner.name

-- So it is in everything that the lists hold. The values of each requirement ascend by their bytes, each once; `OneOf`
-- and `NoneOf` have at least one, and the others none. No range of ports or addresses is empty, and blocks are well
-- formed.
abbrev pub is_well : EstateLists → Bool
is_well lists =
    list_all is_well_pod lists.pods && list_all is_well_net_policy lists.net_policies
    && list_all is_well_admin_policy lists.admin_policies && option_map_or is_well_base_policy lists.baseline true
    && list_all is_well_service lists.services && list_all (λ placed. is_well_ingress placed.ingress) lists.ingresses

-- ---- all of it

-- no list has more items than are read
pub record IsFew (lists : EstateLists) : Type 0 where
  pub pods : length lists.pods ≤ 20000
  pub net_policies : length lists.net_policies ≤ 20000
  pub admin_policies : length lists.admin_policies ≤ 20000
  pub services : length lists.services ≤ 20000
  pub ingresses : length lists.ingresses ≤ 20000

-- What holds of every estate that is read.
pub record IsLawful (lists : EstateLists) : Type 0 where
  -- no list has more items than are read
  pub few : IsFew lists
  -- No two listed pods have one namespace and one name. A pod made from a template may have those of another pod.
  pub pods_apart : AllPairs ArePodsApart (filter (λ pod. pod.listed) lists.pods)
  -- pods of one namespace have the same labels of it
  pub namespaces_agree : AllPairs AgreeOnNamespace lists.pods
  -- among these labels is the name of the namespace
  pub namespaces_named : All SaysItsNamespace lists.pods
  -- NetworkPolicies stand in the order of their namespaces and names, no two with the same
  pub net_policies_ascend : AllPairs PolicyStandsBefore lists.net_policies
  -- admin policies stand in the order of their priorities, no two with the same
  pub admin_policies_ascend : HasAscendingPriorities lists.admin_policies
  -- no two admin policies have one name
  pub admin_policies_apart : AllPairs AreNamesApart lists.admin_policies
  -- no two Services have one namespace and one name
  pub services_apart : AllPairs AreServicesApart lists.services
  -- Ingresses stand in the order of their items
  pub ingresses_ascend : AllPairs IsEarlierItem lists.ingresses
  -- names, labels, selectors, ports and blocks are well formed
  pub well : IsTrue (is_well lists)
