-- What a report of `flatten` says of the bytes of its inputs, and why there is none.
use Rattle.std.specs.Prelude.{◌≡◌, ◌≢◌, ◌<◌, ◌⊎◌, ℕ, List, [], ◌∷◌, Contains, None, Ok, length, true}
use Rattle.np_command_flatten.specs.Types.{Direction, EstateLists, Family, Fault, NetPolicy, PortSpot}
use Rattle.np_command.specs.Prelude.{SinkTrace, TookWhole, lists_of}
use Rattle.np_command.specs.declared.fault.Fault.TheVariants.{Alike, Split}
use Rattle.np_conns.specs.Prelude.{is_spot}
use Rattle.np_fold.specs.Prelude.{folding_of, name_of_workload, workload_number}
use Rattle.np_model.specs.Prelude.{families_of}
use Rattle.np_reading.specs.Prelude.{estate_of}
use Rattle.np_rules.specs.Prelude.{pod, pod_at}
use Rattle.np_flatten.specs.Prelude.{look_alike}
use Rattle.np_table.specs.Prelude.{IsInFamily}
use Rattle.np_kinds.specs.Prelude.{between_pods, with_address}

-- ---- the same verdicts

-- Two estates with the same pods allow and deny the same between every two different pods, in each family of the list.
abbrev pub SamePods : EstateLists → EstateLists → Type 0
SamePods one other = (p q : ℕ) (family : Family) (spot : PortSpot) → p < length one.pods → q < length one.pods → p ≢ q
    → Contains (families_of one.pods) family → is_spot spot ≡ true → between_pods other p q family spot ≡ between_pods one p q family spot

-- So they do between each pod and every address, either way.
abbrev pub SameAddresses : EstateLists → EstateLists → Type 0
SameAddresses one other = (p : ℕ) (direction : Direction) (family : Family) (number : ℕ) (spot : PortSpot) → p < length one.pods
    → IsInFamily family number → is_spot spot ≡ true
    → with_address other direction (pod (pod_at one p)) family number spot ≡ with_address one direction (pod (pod_at one p)) family number spot

-- the estate of NetworkPolicies alone
abbrev pub policies_alone : List NetPolicy → EstateLists
policies_alone policies = record {
  pods = [];
  net_policies = policies;
  admin_policies = [];
  baseline = None;
  services = [];
  ingresses = [];
  notes = record { host = 0; finished = 0; skipped = 0; unaddressed = 0 };
}

-- the estate with NetworkPolicies in place of all of its policies
abbrev pub with_policies : EstateLists → List NetPolicy → EstateLists
with_policies lists policies = record lists { net_policies = policies; admin_policies = []; baseline = None }

-- The bytes of the inputs are those of an estate. The sink took a text that is read as NetworkPolicies and nothing
-- else, and in place of all policies of the estate these give all of its verdicts.
pub record FlattensAll (out : SinkTrace) (texts : List (List ℕ)) : Type 0 where
  pub lists : EstateLists
  pub read : lists_of texts ≡ Ok lists
  pub text : List ℕ
  pub policies : List NetPolicy
  pub printed : TookWhole out text
  pub again : estate_of (text ∷ []) ≡ Ok (policies_alone policies)
  pub pods : SamePods lists (with_policies lists policies)
  pub addresses : SameAddresses lists (with_policies lists policies)

-- ---- why there are none

-- the name of the workload of the pod at a place
abbrev pub workload_name : EstateLists → ℕ → List ℕ
workload_name lists p = name_of_workload (folding_of lists) (workload_number lists p)

-- the workloads of two pods come before those of two others, by the first and then by the second
abbrev pub AreBefore : EstateLists → ℕ → ℕ → ℕ → ℕ → Type 0
AreBefore lists p q r s = (workload_number lists p < workload_number lists r)
    ⊎ ((workload_number lists p ≡ workload_number lists r) × (workload_number lists q < workload_number lists s))

-- at two places there are pods, and different ones
abbrev pub AreTwoPods : EstateLists → ℕ → ℕ → Type 0
AreTwoPods lists p q = (p < length lists.pods) × (q < length lists.pods) × (p ≢ q)

-- the family is one of the list, and the spot a protocol and port
abbrev pub IsListed : EstateLists → Family → PortSpot → Type 0
IsListed lists family spot = Contains (families_of lists.pods) family × (is_spot spot ≡ true)

-- in all families of the list the same packets pass from a pod to another
abbrev pub AreFamiliesAlike : EstateLists → ℕ → ℕ → Type 0
AreFamiliesAlike lists p q = (family other : Family) (spot : PortSpot) → IsListed lists family spot → IsListed lists other spot
    → between_pods lists p q family spot ≡ between_pods lists p q other spot

-- two pods of two workloads, of the earlier one first, that selectors do not tell apart
abbrev pub LookAlike : EstateLists → ℕ → ℕ → Type 0
LookAlike lists p q = AreTwoPods lists p q × (workload_number lists p < workload_number lists q) × (look_alike (folding_of lists).relevant (pod_at lists p) (pod_at lists q) ≡ true)

-- No packet tells two pods apart: either may send the same to every third pod, receive the same of it, and send the
-- other the same, and the same passes between either and every address, either way.
pub record AreTreatedAlike (lists : EstateLists) (p q : ℕ) : Type 0 where
  pub sends : (third : ℕ) (family : Family) (spot : PortSpot) → AreTwoPods lists third p → AreTwoPods lists third q → IsListed lists family spot
      → between_pods lists p third family spot ≡ between_pods lists q third family spot
  pub receives : (third : ℕ) (family : Family) (spot : PortSpot) → AreTwoPods lists third p → AreTwoPods lists third q → IsListed lists family spot
      → between_pods lists third p family spot ≡ between_pods lists third q family spot
  pub each_other : (family : Family) (spot : PortSpot) → IsListed lists family spot → between_pods lists p q family spot ≡ between_pods lists q p family spot
  pub addresses : (direction : Direction) (family : Family) (number : ℕ) (spot : PortSpot) → IsInFamily family number → is_spot spot ≡ true
      → with_address lists direction (pod (pod_at lists p)) family number spot ≡ with_address lists direction (pod (pod_at lists q)) family number spot

-- Between two pods of workloads of these names the families of the list differ in what passes, and between no two of
-- workloads that come before them.
pub record IsFirstSplit (lists : EstateLists) (source destination : List ℕ) : Type 0 where
  pub p : ℕ
  pub q : ℕ
  pub source_is : source ≡ workload_name lists p
  pub destination_is : destination ≡ workload_name lists q
  pub apart : AreTwoPods lists p q
  pub differ : AreFamiliesAlike lists p q → ⊥
  pub first : (r s : ℕ) → AreTwoPods lists r s → AreBefore lists r s p q → AreFamiliesAlike lists r s

-- The families differ nowhere. Selectors do not tell apart two pods of workloads of these names, and some packet does; and
-- it is so of no two of workloads that come before them.
pub record IsFirstAlike (lists : EstateLists) (a b : List ℕ) : Type 0 where
  pub p : ℕ
  pub q : ℕ
  pub a_is : a ≡ workload_name lists p
  pub b_is : b ≡ workload_name lists q
  pub alike : LookAlike lists p q
  pub differ : AreTreatedAlike lists p q → ⊥
  pub first : (r s : ℕ) → LookAlike lists r s → AreBefore lists r s p q → AreTreatedAlike lists r s
  pub nothing_split : (r s : ℕ) → AreTwoPods lists r s → AreFamiliesAlike lists r s

-- why an estate has no flat policies
abbrev pub RefusesFlatten : EstateLists → Fault → Type 0
RefusesFlatten lists (Split source destination) = IsFirstSplit lists source destination
RefusesFlatten lists (Alike a b) = IsFirstAlike lists a b
RefusesFlatten lists other = ⊥
