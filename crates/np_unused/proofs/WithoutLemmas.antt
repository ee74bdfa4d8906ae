-- The rules of a side, where some are taken out of the estate. For ChangeLemmas.
use Rattle.std.proofs.Common.{◌≡◌, ℕ, ◌+◌, ◌<◌, List, [], ◌∷◌, ◌++◌, Bool, true, false, ◌&&◌, ◌||◌, not, map, filter, is_some, length, Option, Some, None, All, refl, sym, ap, ◌∙◌, arith, unwrap_or, if◌then◌else◌}
use Rattle.std.specs.List.{enumerate_from, flat_map, slice_get}
use Rattle.std.specs.Option.{option_map, option_map_or}
use Rattle.std.proofs.lemmas.List.{map-append}
use Rattle.std.proofs.lemmas.List.Elements.{All-append, All-cons, All-nil, filter-append}
use Rattle.np_tiers.proofs.Verdicts.{StandsAt, first_stands, rest_stands}
use Rattle.np_model.specs.Prelude.{HasAscendingPriorities, ascends}
use Rattle.np_unused.specs.Prelude.{Admin, AdminPolicy, AdminRule, Base, BasePolicy, Direction, Egress, Ingress, Net, NetPolicy, NetRule, RuleRef, admin_without, base_without, goes, net_without, without_places}
use Rattle.np_rules.proofs.PlacesLemmas.{map-numbered}
use Rattle.np_rules.specs.Prelude.{PlacedAdminRule, PlacedBaseRule, PlacedNetRule, PodEnd, admin_places, admin_places_of, admin_rules_of, base_places, base_rules_of, is_isolated, isolates, net_places, net_places_of, net_rules_of, net_selects, subject_selects}
use Rattle.np_rules.proofs.PolicyRulesLemmas.{placed_admin}
use Rattle.np_explain.proofs.NamedLemmas.{net_made}

-- ---- any kind of placed rules

-- a placed rule beside the number of its policy
abbrev beside : {Y : Type 0} → ℕ → Y → ℕ × Y
beside n y = (n, y)

unpaired : {Y : Type 0} (n : ℕ) (ys : List Y) → map (λ x. x.1) (map (beside n) ys) ≡ ys
unpaired n [] = refl
unpaired {Y} n (y ∷ ys) = ap (λ (zs : List Y). y ∷ zs) (unpaired n ys)

-- the rules of one policy that stay: their numbers are not among those that go
stay_in_one : {X Y Z : Type 0} (make : ℕ × X → Y) (seen : Y → Z) (see : X → Z) (number : ℕ) (keep : ℕ × Y → Bool) (gone : ℕ → Bool) → ((e : ℕ × X) → seen (make e) ≡ see e.1) →
    ((e : ℕ × X) → keep (number, make e) ≡ not (gone e.0)) → (items : List X) →
    map see (without_places gone items) ≡ map (λ x. seen x.1) (filter keep (map (beside number) (map make (enumerate_from 0 items))))
stay_in_one {X} {Y} {Z} make seen see number keep gone sees keeps items = go 0 items
  where
    go : (n : ℕ) (xs : List X) →
        map see (map (λ e. e.1) (filter (λ e. not (gone e.0)) (enumerate_from n xs))) ≡ map (λ x. seen x.1) (filter keep (map (beside number) (map make (enumerate_from n xs))))
    go n [] = refl
    go n (x ∷ xs) = rw (keeps (n, x)) (by (not (gone n)) (go (n + 1) xs))
      where
        by : (b : Bool) →
            map see (map (λ e. e.1) (filter (λ e. not (gone e.0)) (enumerate_from (n + 1) xs))) ≡ map (λ y. seen y.1) (filter keep (map (beside number) (map make (enumerate_from (n + 1) xs)))) →
            map see (map (λ e. e.1) (if b then (n, x) ∷ filter (λ e. not (gone e.0)) (enumerate_from (n + 1) xs) else filter (λ e. not (gone e.0)) (enumerate_from (n + 1) xs))) ≡ map (λ y. seen y.1)
            (if b then (number, make (n, x)) ∷ filter keep (map (beside number) (map make (enumerate_from (n + 1) xs))) else filter keep
            (map (beside number) (map make (enumerate_from (n + 1) xs))))
        by true rest = ap (λ (zs : List Z). see x ∷ zs) rest ∙ ap (λ (z : Z). z ∷ map (λ y. seen y.1) (filter keep (map (beside number) (map make (enumerate_from (n + 1) xs))))) (sym (sees (n, x)))
        by false rest = rest

-- what holds of each numbered item holds of all of them
numbered_in : {X Y : Type 0} (P : ℕ × Y → Type 0) (number : ℕ) (make : ℕ × X → Y) (items : List X) → ((e : ℕ × X) → e.0 < length items → P (number, make e)) →
    All P (map (beside number) (map make (enumerate_from 0 items)))
numbered_in {X} {Y} P number make items each = go 0 items (λ e below. each e (omega arith))
  where
    go : (n : ℕ) (xs : List X) → ((e : ℕ × X) → e.0 < n + length xs → P (number, make e)) → All P (map (beside number) (map make (enumerate_from n xs)))
    go n [] all = All-nil P
    go n (x ∷ xs) all = All-cons P (number, make (n, x)) (map (beside number) (map make (enumerate_from (n + 1) xs))) (all (n, x) (omega arith)) (go (n + 1) xs (λ e below. all e (omega arith)))

-- ---- admin policies

module _ (rules : List RuleRef) (direction : Direction) (p : PodEnd) where
  -- the rules of a policy that speak of the pod, with the policy's number
  abbrev pub admin_by : ℕ × AdminPolicy → List (ℕ × PlacedAdminRule)
  admin_by numbered = if subject_selects numbered.1.subject p then map (beside numbered.0) (admin_places_of direction numbered.1) else []

  abbrev pub admin_from : ℕ → List AdminPolicy → List (ℕ × PlacedAdminRule)
  admin_from n policies = flat_map admin_by (enumerate_from n policies)

  abbrev pub admin_stays : ℕ × PlacedAdminRule → Bool
  admin_stays x = not (goes rules Admin x.0 direction x.1.place)

  pub admin_placed : (n : ℕ) (policies : List AdminPolicy) → map (λ x. x.1) (admin_from n policies) ≡ admin_places policies direction p
  admin_placed n [] = refl
  admin_placed n (policy ∷ policies) =
      map-append (λ x. x.1) (admin_by (n, policy)) (admin_from (n + 1) policies)
      ∙ ap (λ (ys : List PlacedAdminRule). ys ++ map (λ x. x.1) (admin_from (n + 1) policies)) (one (subject_selects policy.subject p))
      ∙ ap (λ (ys : List PlacedAdminRule). (if subject_selects policy.subject p then admin_places_of direction policy else []) ++ ys) (admin_placed (n + 1) policies)
    where
      one : (b : Bool) → map (λ x. x.1) (if b then map (beside n) (admin_places_of direction policy) else []) ≡ (if b then admin_places_of direction policy else [])
      one true = unpaired n (admin_places_of direction policy)
      one false = refl

  admin_rules_left : (n : ℕ) (policy : AdminPolicy) → admin_rules_of direction (admin_without rules (n, policy)) ≡ without_places (goes rules Admin n direction) (admin_rules_of direction policy)
  admin_rules_left n policy = by direction
    where
      by : (d : Direction) → admin_rules_of d (admin_without rules (n, policy)) ≡ without_places (goes rules Admin n d) (admin_rules_of d policy)
      by Ingress = refl
      by Egress = refl

  same_rule_of : {X : Type 0} (xs : List X) → map (λ x. x) xs ≡ xs
  same_rule_of [] = refl
  same_rule_of {X} (x ∷ xs) = ap (λ (ys : List X). x ∷ ys) (same_rule_of xs)

  pub admin_left : (n : ℕ) (policies : List AdminPolicy) →
      map (λ placed. placed.rule) (admin_places (map (admin_without rules) (enumerate_from n policies)) direction p) ≡ map (λ x. x.1.rule) (filter admin_stays (admin_from n policies))
  admin_left n [] = refl
  admin_left n (policy ∷ policies) =
      map-append (λ placed. placed.rule) (if subject_selects policy.subject p then admin_places_of direction (admin_without rules (n, policy)) else [])
      (admin_places (map (admin_without rules) (enumerate_from (n + 1) policies)) direction p)
      ∙ ap (λ (ys : List AdminRule). ys ++ map (λ placed. placed.rule) (admin_places (map (admin_without rules) (enumerate_from (n + 1) policies)) direction p))
      (one (subject_selects policy.subject p))
      ∙ ap (λ (ys : List AdminRule). map (λ x. x.1.rule) (filter admin_stays (admin_by (n, policy))) ++ ys) (admin_left (n + 1) policies)
      ∙ sym (map-append (λ x. x.1.rule) (filter admin_stays (admin_by (n, policy))) (filter admin_stays (admin_from (n + 1) policies)))
      ∙ ap (map (λ x. x.1.rule)) (sym (filter-append admin_stays (admin_by (n, policy)) (admin_from (n + 1) policies)))
    where
      one : (b : Bool) →
          map (λ placed. placed.rule) (if b then admin_places_of direction (admin_without rules (n, policy)) else []) ≡ map (λ x. x.1.rule)
          (filter admin_stays (if b then map (beside n) (admin_places_of direction policy) else []))
      one true =
          map-numbered (placed_admin (admin_without rules (n, policy))) (λ placed. placed.rule) (λ e. refl) 0 (admin_rules_of direction (admin_without rules (n, policy)))
          ∙ admin_rules_left n policy
          ∙ sym (same_rule_of (without_places (goes rules Admin n direction) (admin_rules_of direction policy)))
          ∙ stay_in_one (placed_admin policy) (λ placed. placed.rule) (λ rule. rule) n admin_stays (goes rules Admin n direction) (λ e. refl) (λ e. refl) (admin_rules_of direction policy)
      one false = refl

  -- the priorities stay
  priorities_left : (n : ℕ) (policies : List AdminPolicy) → map (λ policy. policy.priority) (map (admin_without rules) (enumerate_from n policies)) ≡ map (λ policy. policy.priority) policies
  priorities_left n [] = refl
  priorities_left n (policy ∷ policies) = ap (λ (ns : List ℕ). policy.priority ∷ ns) (priorities_left (n + 1) policies)

  pub ascending_left : (policies : List AdminPolicy) → HasAscendingPriorities policies → HasAscendingPriorities (map (admin_without rules) (enumerate_from 0 policies))
  ascending_left policies ascending = ap ascends (priorities_left 0 policies) ∙ ascending

  -- each of them is a rule of the policy of its number
  abbrev pub IsAdminAt : List AdminPolicy → ℕ × PlacedAdminRule → Type 0
  IsAdminAt all x = (slice_get all x.0 ≡ Some x.1.policy) × (x.1.place < length (admin_rules_of direction x.1.policy))

  pub admin_are : (all : List AdminPolicy) (n : ℕ) (policies : List AdminPolicy) → StandsAt all n policies → All (IsAdminAt all) (admin_from n policies)
  admin_are all n [] stands = All-nil (IsAdminAt all)
  admin_are all n (policy ∷ policies) stands =
      All-append (IsAdminAt all) (admin_by (n, policy)) (admin_from (n + 1) policies) (one (subject_selects policy.subject p))
      (admin_are all (n + 1) policies (rest_stands all n policy policies stands))
    where
      one : (b : Bool) → All (IsAdminAt all) (if b then map (beside n) (admin_places_of direction policy) else [])
      one true = numbered_in (IsAdminAt all) n (λ e. record { policy = policy; place = e.0; rule = e.1 }) (admin_rules_of direction policy)
          (λ e below. (first_stands all n policy policies stands, below))
      one false = All-nil (IsAdminAt all)

-- ---- NetworkPolicies

-- a rule with its policy's namespace
abbrev pub spaced : PlacedNetRule → List ℕ × NetRule
spaced placed = (placed.policy.namespace, placed.rule)

abbrev in_space : List ℕ → NetRule → List ℕ × NetRule
in_space namespace rule = (namespace, rule)

spaced_numbered : (policy : NetPolicy) (m : ℕ) (xs : List NetRule) → map spaced (map (net_made policy) (enumerate_from m xs)) ≡ map (in_space policy.namespace) xs
spaced_numbered policy m [] = refl
spaced_numbered policy m (x ∷ xs) = ap (λ (ys : List (List ℕ × NetRule)). (policy.namespace, x) ∷ ys) (spaced_numbered policy (m + 1) xs)

module _ (rules : List RuleRef) (direction : Direction) (p : PodEnd) where
  abbrev pub net_by : ℕ × NetPolicy → List (ℕ × PlacedNetRule)
  net_by numbered = if net_selects numbered.1 p then map (beside numbered.0) (net_places_of direction numbered.1) else []

  abbrev pub net_from : ℕ → List NetPolicy → List (ℕ × PlacedNetRule)
  net_from n policies = flat_map net_by (enumerate_from n policies)

  abbrev pub net_stays : ℕ × PlacedNetRule → Bool
  net_stays x = not (goes rules Net x.0 direction x.1.place)

  pub net_placed : (n : ℕ) (policies : List NetPolicy) → map (λ x. x.1) (net_from n policies) ≡ net_places policies direction p
  net_placed n [] = refl
  net_placed n (policy ∷ policies) =
      map-append (λ x. x.1) (net_by (n, policy)) (net_from (n + 1) policies)
      ∙ ap (λ (ys : List PlacedNetRule). ys ++ map (λ x. x.1) (net_from (n + 1) policies)) (one (net_selects policy p))
      ∙ ap (λ (ys : List PlacedNetRule). (if net_selects policy p then net_places_of direction policy else []) ++ ys) (net_placed (n + 1) policies)
    where
      one : (b : Bool) → map (λ x. x.1) (if b then map (beside n) (net_places_of direction policy) else []) ≡ (if b then net_places_of direction policy else [])
      one true = unpaired n (net_places_of direction policy)
      one false = refl

  or_none : (gone : ℕ → Bool) (found : Option (List NetRule)) → unwrap_or (option_map (without_places gone) found) [] ≡ without_places gone (unwrap_or found [])
  or_none gone None = refl
  or_none gone (Some written) = refl

  net_rules_left : (n : ℕ) (policy : NetPolicy) → net_rules_of direction (net_without rules (n, policy)) ≡ option_map (without_places (goes rules Net n direction)) (net_rules_of direction policy)
  net_rules_left n policy = by direction
    where
      by : (d : Direction) → net_rules_of d (net_without rules (n, policy)) ≡ option_map (without_places (goes rules Net n d)) (net_rules_of d policy)
      by Ingress = refl
      by Egress = refl

  pub net_left : (n : ℕ) (policies : List NetPolicy) →
      map spaced (net_places (map (net_without rules) (enumerate_from n policies)) direction p) ≡ map (λ x. spaced x.1) (filter net_stays (net_from n policies))
  net_left n [] = refl
  net_left n (policy ∷ policies) =
      map-append spaced (if net_selects policy p then net_places_of direction (net_without rules (n, policy)) else [])
      (net_places (map (net_without rules) (enumerate_from (n + 1) policies)) direction p)
      ∙ ap (λ (ys : List (List ℕ × NetRule)). ys ++ map spaced (net_places (map (net_without rules) (enumerate_from (n + 1) policies)) direction p)) (one (net_selects policy p))
      ∙ ap (λ (ys : List (List ℕ × NetRule)). map (λ x. spaced x.1) (filter net_stays (net_by (n, policy))) ++ ys) (net_left (n + 1) policies)
      ∙ sym (map-append (λ x. spaced x.1) (filter net_stays (net_by (n, policy))) (filter net_stays (net_from (n + 1) policies)))
      ∙ ap (map (λ x. spaced x.1)) (sym (filter-append net_stays (net_by (n, policy)) (net_from (n + 1) policies)))
    where
      one : (b : Bool) →
          map spaced (if b then net_places_of direction (net_without rules (n, policy)) else []) ≡ map (λ x. spaced x.1)
          (filter net_stays (if b then map (beside n) (net_places_of direction policy) else []))
      one true =
          spaced_numbered (net_without rules (n, policy)) 0 (unwrap_or (net_rules_of direction (net_without rules (n, policy))) [])
          ∙ ap (λ (found : Option (List NetRule)). map (in_space policy.namespace) (unwrap_or found [])) (net_rules_left n policy)
          ∙ ap (map (in_space policy.namespace)) (or_none (goes rules Net n direction) (net_rules_of direction policy))
          ∙ stay_in_one (net_made policy) spaced (in_space policy.namespace) n net_stays (goes rules Net n direction) (λ e. refl) (λ e. refl) (unwrap_or (net_rules_of direction policy) [])
      one false = refl

  abbrev pub IsNetAt : List NetPolicy → ℕ × PlacedNetRule → Type 0
  IsNetAt all x = (slice_get all x.0 ≡ Some x.1.policy) × (x.1.place < length (unwrap_or (net_rules_of direction x.1.policy) []))

  pub net_are : (all : List NetPolicy) (n : ℕ) (policies : List NetPolicy) → StandsAt all n policies → All (IsNetAt all) (net_from n policies)
  net_are all n [] stands = All-nil (IsNetAt all)
  net_are all n (policy ∷ policies) stands =
      All-append (IsNetAt all) (net_by (n, policy)) (net_from (n + 1) policies) (one (net_selects policy p)) (net_are all (n + 1) policies (rest_stands all n policy policies stands))
    where
      one : (b : Bool) → All (IsNetAt all) (if b then map (beside n) (net_places_of direction policy) else [])
      one true = numbered_in (IsNetAt all) n (λ e. record { policy = policy; place = e.0; rule = e.1 }) (unwrap_or (net_rules_of direction policy) [])
          (λ e below. (first_stands all n policy policies stands, below))
      one false = All-nil (IsNetAt all)

  -- the isolation stays
  some_left : {X Y : Type 0} (f : X → Y) (found : Option X) → is_some (option_map f found) ≡ is_some found
  some_left f None = refl
  some_left f (Some x) = refl

  isolates_left : (n : ℕ) (policy : NetPolicy) → isolates direction p (net_without rules (n, policy)) ≡ isolates direction p policy
  isolates_left n policy = ap (λ (found : Option (List NetRule)). net_selects policy p && is_some found) (net_rules_left n policy) ∙ ap (λ (b : Bool). net_selects policy p && b)
      (some_left (without_places (goes rules Net n direction)) (net_rules_of direction policy))

  pub isolated_left : (n : ℕ) (policies : List NetPolicy) → is_isolated (map (net_without rules) (enumerate_from n policies)) direction p ≡ is_isolated policies direction p
  isolated_left n [] = refl
  isolated_left n (policy ∷ policies) =
      ap (λ (b : Bool). b || is_isolated (map (net_without rules) (enumerate_from (n + 1) policies)) direction p) (isolates_left n policy)
      ∙ ap (λ (b : Bool). isolates direction p policy || b) (isolated_left (n + 1) policies)

-- ---- the baseline

abbrev base_place_at : ℕ × AdminRule → PlacedBaseRule
base_place_at e = record { place = e.0; rule = e.1 }

module _ (rules : List RuleRef) (direction : Direction) (p : PodEnd) where
  abbrev pub base_from : Option BasePolicy → List (ℕ × PlacedBaseRule)
  base_from baseline = map (beside 0) (base_places baseline direction p)

  abbrev pub base_stays : ℕ × PlacedBaseRule → Bool
  base_stays x = not (goes rules Base x.0 direction x.1.place)

  pub base_placed : (baseline : Option BasePolicy) → map (λ x. x.1) (base_from baseline) ≡ base_places baseline direction p
  base_placed baseline = unpaired 0 (base_places baseline direction p)

  base_rules_left : (policy : BasePolicy) → base_rules_of direction (base_without rules policy) ≡ without_places (goes rules Base 0 direction) (base_rules_of direction policy)
  base_rules_left policy = by direction
    where
      by : (d : Direction) → base_rules_of d (base_without rules policy) ≡ without_places (goes rules Base 0 d) (base_rules_of d policy)
      by Ingress = refl
      by Egress = refl

  base_same : {X : Type 0} (xs : List X) → map (λ x. x) xs ≡ xs
  base_same [] = refl
  base_same {X} (x ∷ xs) = ap (λ (ys : List X). x ∷ ys) (base_same xs)

  pub base_left : (baseline : Option BasePolicy) →
      map (λ placed. placed.rule) (base_places (option_map (base_without rules) baseline) direction p) ≡ map (λ x. x.1.rule) (filter base_stays (base_from baseline))
  base_left None = refl
  base_left (Some policy) = one (subject_selects policy.subject p)
    where
      one : (b : Bool) →
          map (λ (placed : PlacedBaseRule). placed.rule) (if b then map base_place_at (enumerate_from 0 (base_rules_of direction (base_without rules policy))) else []) ≡ map
          (λ (x : ℕ × PlacedBaseRule). x.1.rule) (filter base_stays (map (beside 0) (if b then map base_place_at (enumerate_from 0 (base_rules_of direction policy)) else [])))
      one true =
          map-numbered base_place_at (λ placed. placed.rule) (λ e. refl) 0 (base_rules_of direction (base_without rules policy))
          ∙ base_rules_left policy
          ∙ sym (base_same (without_places (goes rules Base 0 direction) (base_rules_of direction policy)))
          ∙ stay_in_one base_place_at (λ placed. placed.rule) (λ rule. rule) 0 base_stays (goes rules Base 0 direction) (λ e. refl) (λ e. refl) (base_rules_of direction policy)
      one false = refl

  abbrev pub IsBaseAt : Option BasePolicy → ℕ × PlacedBaseRule → Type 0
  IsBaseAt baseline x = (x.0 ≡ 0) × (x.1.place < option_map_or (λ policy. length (base_rules_of direction policy)) baseline 0)

  pub base_are : (baseline : Option BasePolicy) → All (IsBaseAt baseline) (base_from baseline)
  base_are None = All-nil (IsBaseAt None)
  base_are (Some policy) = one (subject_selects policy.subject p)
    where
      one : (b : Bool) → All (IsBaseAt (Some policy)) (map (beside 0) (if b then map base_place_at (enumerate_from 0 (base_rules_of direction policy)) else []))
      one true = numbered_in (IsBaseAt (Some policy)) 0 base_place_at (base_rules_of direction policy) (λ e below. (refl, below))
      one false = All-nil (IsBaseAt (Some policy))
