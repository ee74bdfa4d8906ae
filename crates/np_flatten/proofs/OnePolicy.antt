-- What the side of a pod allows that one policy of a list selects, without other policies. For FlatVerdicts and crates above.
use Rattle.std.proofs.Common.{◌≡◌, ◌≢◌, ℕ, ◌+◌, ◌<◌, List, [], ◌∷◌, Bool, true, false, ◌||◌, Option, Some, None, map, flat_map, if◌then◌else◌, refl, sym, ap, ◌∙◌, inl, inr}
use Rattle.std.specs.Prelude.{is_some, unwrap_or}
use Rattle.std.specs.List.{enumerate_from, list_any}
use Rattle.std.proofs.lemmas.Bool.{and_from, cases_Bool, cases_eq, false_from_ne_true, true≢false}
use Rattle.std.proofs.lemmas.List.Folds.{list_any-append}
use Rattle.np_classes.proofs.Lists.{any_place, place_that_passes}
use Rattle.np_classes.specs.Classes.{places}
use Rattle.np_flatten.specs.Prelude.{Direction, EstateLists, NetPolicy, NetRule}
use Rattle.np_rules.proofs.StrangerLemmas.{any-map}
use Rattle.np_rules.specs.Prelude.{Contact, PodEnd, is_isolated, isolates, net_places_of, net_rule_matches, net_rules_of, net_selects, permits, placed_net_matches, side_allows}
use Rattle.np_base.proofs.Lists.{list_any-agrees}

-- ---- tests of some item

pub any-flat_map : {X Y : Type 0} (p : Y → Bool) (f : X → List Y) (xs : List X) → list_any p (flat_map f xs) ≡ list_any (λ x. list_any p (f x)) xs
any-flat_map p f [] = refl
any-flat_map p f (x ∷ xs) = list_any-append p (f x) (flat_map f xs) ∙ ap (λ (b : Bool). list_any p (f x) || b) (any-flat_map p f xs)

-- where one place alone may pass it tells
pub only-one : (p : ℕ → Bool) (n g : ℕ) → g < n → ((h : ℕ) → h < n → h ≢ g → p h ≡ false) → list_any p (places n) ≡ p g
only-one p n g within others =
    elim (cases_Bool (p g)) [
      | inl passes ↦ any_place p n g within passes ∙ sym passes
      | inr fails ↦ false_from_ne_true (list_any p (places n)) (λ some. never fails (place_that_passes p n some)) ∙ sym fails
    ]
  where
    never : p g ≡ false → ((k : ℕ) × (k < n) × (p k ≡ true)) → ⊥
    never fails found =
        elim (cases_eq found.0 g) [
          | inl here ↦ true≢false (sym found.2 ∙ ap p here ∙ fails)
          | inr apart ↦ true≢false (sym found.2 ∙ others found.0 found.1 apart)
        ]

-- ---- rules of a policy

any-numbered : (contact : Contact) (policy : NetPolicy) (from : ℕ) (rules : List NetRule) →
    list_any (placed_net_matches contact) (map (λ numbered. record { policy = policy; place = numbered.0; rule = numbered.1 }) (enumerate_from from rules)) ≡ list_any
    (λ rule. net_rule_matches policy.namespace rule contact) rules
any-numbered contact policy from [] = refl
any-numbered contact policy from (rule ∷ rules) = ap (λ (b : Bool). net_rule_matches policy.namespace rule contact || b) (any-numbered contact policy (from + 1) rules)

-- whether some rule of a direction of a policy matches, where it selects the pod
abbrev pub policy_permits : Direction → PodEnd → Contact → NetPolicy → Bool
policy_permits direction p contact policy = if net_selects policy p then list_any (λ rule. net_rule_matches policy.namespace rule contact) (unwrap_or (net_rules_of direction policy) []) else false

any-selected : (direction : Direction) (p : PodEnd) (contact : Contact) (policy : NetPolicy) →
    list_any (placed_net_matches contact) (if net_selects policy p then net_places_of direction policy else []) ≡ policy_permits direction p contact policy
any-selected direction p contact policy = by (net_selects policy p)
  where
    by : (selects : Bool) →
        list_any (placed_net_matches contact) (if selects then net_places_of direction policy else []) ≡
        (if selects then list_any (λ rule. net_rule_matches policy.namespace rule contact) (unwrap_or (net_rules_of direction policy) []) else false)
    by true = any-numbered contact policy 0 (unwrap_or (net_rules_of direction policy) [])
    by false = refl

pub permits-any : (policies : List NetPolicy) (direction : Direction) (p : PodEnd) (contact : Contact) → permits policies direction p contact ≡ list_any (policy_permits direction p contact) policies
permits-any policies direction p contact =
    any-flat_map (placed_net_matches contact) (λ policy. if net_selects policy p then net_places_of direction policy else []) policies
    ∙ list_any-agrees (λ policy. list_any (placed_net_matches contact) (if net_selects policy p then net_places_of direction policy else [])) (policy_permits direction p contact)
    (any-selected direction p contact) policies

-- ---- one policy that selects

-- The side of a pod that one policy of a list selects, and no other, allows what some rule of that policy matches.
pub side-by_one : (lists : EstateLists) (policy : ℕ → NetPolicy) (n g : ℕ) (direction : Direction) (p : PodEnd) (contact : Contact) (rules : List NetRule) → g < n → net_selects (policy g) p ≡ true →
    ((h : ℕ) → h < n → h ≢ g → net_selects (policy h) p ≡ false) → net_rules_of direction (policy g) ≡ Some rules
    → side_allows (record lists { net_policies = map policy (places n); admin_policies = []; baseline = None }) direction p contact ≡ list_any
    (λ rule. net_rule_matches (policy g).namespace rule contact) rules
unfolding side_allows
side-by_one lists policy n g direction p contact rules within selects others has =
    rw isolated (permits-any (map policy (places n)) direction p contact
    ∙ any-map (policy_permits direction p contact) policy (places n)
    ∙ only-one (λ h. policy_permits direction p contact (policy h)) n g within
    (λ h below apart. ap (λ (b : Bool). if b then list_any (λ rule. net_rule_matches (policy h).namespace rule contact) (unwrap_or (net_rules_of direction (policy h)) []) else false)
    (others h below apart))
    ∙ ap (λ (b : Bool). if b then list_any (λ rule. net_rule_matches (policy g).namespace rule contact) (unwrap_or (net_rules_of direction (policy g)) []) else false) selects
    ∙ ap (λ (o : Option (List NetRule)). list_any (λ rule. net_rule_matches (policy g).namespace rule contact) (unwrap_or o [])) has)
  where
    isolated : is_isolated (map policy (places n)) direction p ≡ true
    isolated =
        any-map (isolates direction p) policy (places n)
        ∙ any_place (λ h. isolates direction p (policy h)) n g within (and_from (net_selects (policy g) p) (is_some (net_rules_of direction (policy g))) selects (ap is_some has))
