-- Which reference names the owner of an object. For `first_counting_reference_names_owner` and crates above.
use Rattle.std.proofs.Common.{◌≡◌, ◌∙◌, ℕ, List, [], ◌∷◌, ◌++◌, Bool, true, false, ◌||◌, if◌then◌else◌, codes, Option, Some, None, option_map, find, refl, ap, arith}
use Rattle.std.specs.Prelude.{All}
use Rattle.std.specs.Bool.{Decides}
use Rattle.std.specs.List.{list_any}
use Rattle.std.specs.Str.{bytes_eq}
use Rattle.std.proofs.lemmas.Bool.{and_from, and_parts, both_ways, false_from_ne_true, not-true, not_from_false}
use Rattle.std.proofs.lemmas.List.Elements.{All-head, All-tail, All-cons}
use Rattle.std.proofs.lemmas.Slice.Eq.{bytes_eq-Decides}
use Rattle.np_objects.specs.Prelude.{Controller, ControllerKind, Counts, CronJob, DaemonSet, Dependent, Deployment, Job, NamesOwner, OwnerRef, OwnerReference, Pod, ReplicaSet, ReplicationController, StatefulSet, counts, is_controller_kind, kind_name, kinds, names_owner, owner_of}

-- ---- kinds of controllers

abbrev named_by : List ℕ → ControllerKind → Bool
named_by kind which = bytes_eq kind (kind_name which)

some_kind : (kind : List ℕ) (some : List ControllerKind) → list_any (named_by kind) some ≡ true → (which : ControllerKind) × (kind ≡ kind_name which)
some_kind kind [] is = cc
some_kind kind (which ∷ some) is = by (named_by kind which) refl is (some_kind kind some)
  where
    by : (first : Bool) → named_by kind which ≡ first → (first || list_any (named_by kind) some) ≡ true → (list_any (named_by kind) some ≡ true → (which : ControllerKind) × (kind ≡ kind_name which)) →
        (which : ControllerKind) × (kind ≡ kind_name which)
    by true same any later = (which, (bytes_eq-Decides kind (kind_name which)).0 same)
    by false same any later = later any

pub is_controller_kind-name : (which : ControllerKind) → is_controller_kind (kind_name which) ≡ true
is_controller_kind-name Deployment = refl
is_controller_kind-name ReplicaSet = refl
is_controller_kind-name StatefulSet = refl
is_controller_kind-name DaemonSet = refl
is_controller_kind-name ReplicationController = refl
is_controller_kind-name Job = refl
is_controller_kind-name CronJob = refl

-- ---- kinds that count

counts-Decides : (dependent : Dependent) (kind : List ℕ) → Decides (counts dependent kind) (Counts dependent kind)
counts-Decides Pod kind = (
  λ is same. both_ways (bytes_eq kind (codes "Node")) (not-true (bytes_eq kind (codes "Node")) is) ((bytes_eq-Decides kind (codes "Node")).1 same),
  λ apart. not_from_false
      (bytes_eq kind (codes "Node")) (false_from_ne_true (bytes_eq kind (codes "Node")) (λ same. apart ((bytes_eq-Decides kind (codes "Node")).0 same))),
)
counts-Decides Controller kind = (some_kind kind kinds, λ named. ap is_controller_kind named.1 ∙ is_controller_kind-name named.0)

names_owner-Decides : (dependent : Dependent) (reference : OwnerReference) → Decides (names_owner dependent reference) (NamesOwner dependent reference)
names_owner-Decides dependent reference =
    let kind = reference.owner.kind in (
      λ is. let parts = and_parts reference.controls (counts dependent kind) is in (parts.0, (counts-Decides dependent kind).0 parts.1),
      λ names. and_from reference.controls
          (counts dependent kind) names.0 ((counts-Decides dependent kind).1 names.1),
    )

-- ---- the first that names the owner

abbrev Passes : Dependent → OwnerReference → Type 0
Passes dependent reference = ¬ NamesOwner dependent reference

-- what the first of some references says of the owner
abbrev owner_by : Dependent → OwnerReference → List OwnerReference → Bool → Option OwnerRef
owner_by dependent reference references named = option_map (λ one. one.owner) (if named then Some reference else find (names_owner dependent) references)

passed : (dependent : Dependent) (reference : OwnerReference) → Passes dependent reference → names_owner dependent reference ≡ false
passed dependent reference passes = false_from_ne_true (names_owner dependent reference) (λ is. passes ((names_owner-Decides dependent reference).0 is))

pub owner_of-first : (dependent : Dependent) (before after : List OwnerReference) (reference : OwnerReference) → All (Passes dependent) before → NamesOwner dependent reference →
    owner_of dependent (before ++ reference ∷ after) ≡ Some reference.owner
owner_of-first dependent [] after reference pass names = ap (owner_by dependent reference after) ((names_owner-Decides dependent reference).1 names)
owner_of-first dependent (other ∷ before) after reference pass names =
    ap (owner_by dependent other (before ++ reference ∷ after)) (passed dependent other (All-head (Passes dependent) other before pass))
    ∙ owner_of-first dependent before after reference (All-tail (Passes dependent) other before pass) names

pub owner_of-none : (dependent : Dependent) (references : List OwnerReference) → All (Passes dependent) references → owner_of dependent references ≡ None
owner_of-none dependent [] pass = refl
owner_of-none dependent (reference ∷ references) pass =
    ap (owner_by dependent reference references) (passed dependent reference (All-head (Passes dependent) reference references pass))
    ∙ owner_of-none dependent references (All-tail (Passes dependent) reference references pass)

pub All-passes : (dependent : Dependent) (references : List OwnerReference) → owner_of dependent references ≡ None → All (Passes dependent) references
All-passes dependent [] none = λ k missing below. absurd (omega arith)
All-passes dependent (reference ∷ references) none = by (names_owner dependent reference) refl none (All-passes dependent references)
  where
    by : (named : Bool) → names_owner dependent reference ≡ named → owner_by dependent reference references named ≡ None → (owner_of dependent references ≡ None → All (Passes dependent) references) →
        All (Passes dependent) (reference ∷ references)
    by true is some later = cc
    by false is none later = All-cons (Passes dependent) reference references (λ names. both_ways (names_owner dependent reference) is ((names_owner-Decides dependent reference).1 names)) (later none)
