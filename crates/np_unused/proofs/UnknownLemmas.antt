-- Of rules that speak of no far end none decides anything with it. For SearchLemmas.
use Rattle.std.proofs.Common.{◌≡◌, ℕ, ◌+◌, suc, List, [], ◌∷◌, Bool, true, false, ◌&&◌, ◌==◌, not, map, Option, Some, None, refl, sym, ap, ◌∙◌, subst, arith, if◌then◌else◌, unwrap_or}
use Rattle.std.specs.List.{AllByRecursion, enumerate_from, list_any, slice_get}
use Rattle.std.specs.Option.{option_and_then, option_map_or}
use Rattle.std.proofs.lemmas.Bool.{and_parts, eqb-true, false≢true, or_parts}
use Rattle.np_base.proofs.Each.{All-append, All-if}
use Rattle.np_unused.specs.Prelude.{AdminPolicy, AdminRule, BasePolicy, Direction, EstateLists, NetPolicy, NetRule, RuleId, Tier, first_at, names, net_rule_speaks, rule_speaks}
use Rattle.np_unused.specs.declared.rule_ref.Tier.TheVariants as tier
use Rattle.np_rules.specs.Prelude.{Contact, NamesAdmin, NamesBase, NamesNet, Pairwise, PlacedAdminRule, PlacedBaseRule, PlacedNetRule, PodEnd, admin_places, admin_places_of, admin_rule_matches, admin_rule_reaches, admin_rules_of, base_places, base_rules_of, matches_of, net_places, net_places_of, net_rule_reaches, net_rules_of, net_selects, subject_selects}

-- ---- the rules of a pod stand at their places

-- items with their numbers, from one of them on
numbered : {X Y : Type 0} (Q : Y → Type 0) (make : ℕ × X → Y) (all : List X) → ((k : ℕ) (x : X) → slice_get all k ≡ Some x → Q (make (k, x))) → (n : ℕ) (xs : List X) →
    ((k : ℕ) → slice_get all (n + k) ≡ slice_get xs k) → AllByRecursion Q (map make (enumerate_from n xs))
numbered Q make all each n [] shifted = tt
numbered {X} Q make all each n (x ∷ xs) shifted =
    let first : n + 0 ≡ n = omega arith in
    (each n x (subst (λ (k : ℕ). slice_get all k ≡ Some x) first (shifted 0)), numbered Q make all each (n + 1) xs onward)
  where
    onward : (k : ℕ) → slice_get all (n + 1 + k) ≡ slice_get xs k
    onward k =
        let next : n + suc k ≡ n + 1 + k = omega arith in
        subst (λ (m : ℕ). slice_get all m ≡ slice_get xs k) next (shifted (suc k))

-- all of them
numbered_all : {X Y : Type 0} (Q : Y → Type 0) (make : ℕ × X → Y) (xs : List X) → ((k : ℕ) (x : X) → slice_get xs k ≡ Some x → Q (make (k, x))) → AllByRecursion Q (map make (enumerate_from 0 xs))
numbered_all Q make xs each = numbered Q make xs each 0 xs same
  where
    same : (k : ℕ) → slice_get xs (0 + k) ≡ slice_get xs k
    same k =
        let is : 0 + k ≡ k = omega arith in
        ap (slice_get xs) is

abbrev StandsInAdmin : Direction → PlacedAdminRule → Type 0
StandsInAdmin direction placed = slice_get (admin_rules_of direction placed.policy) placed.place ≡ Some placed.rule

admin_stands : (direction : Direction) (p : PodEnd) (policies : List AdminPolicy) → AllByRecursion (StandsInAdmin direction) (admin_places policies direction p)
admin_stands direction p [] = tt
admin_stands direction p (policy ∷ policies) =
    All-append (StandsInAdmin direction) (if subject_selects policy.subject p then admin_places_of direction policy else []) (admin_places policies direction p)
    (All-if (StandsInAdmin direction) (subject_selects policy.subject p) (admin_places_of direction policy)
    (numbered_all (StandsInAdmin direction) (λ (one : ℕ × AdminRule). record { policy = policy; place = one.0; rule = one.1 }) (admin_rules_of direction policy) (λ k x at. at)))
    (admin_stands direction p policies)

abbrev StandsInNet : Direction → PlacedNetRule → Type 0
StandsInNet direction placed = slice_get (unwrap_or (net_rules_of direction placed.policy) []) placed.place ≡ Some placed.rule

net_stands : (direction : Direction) (p : PodEnd) (policies : List NetPolicy) → AllByRecursion (StandsInNet direction) (net_places policies direction p)
net_stands direction p [] = tt
net_stands direction p (policy ∷ policies) =
    All-append (StandsInNet direction) (if net_selects policy p then net_places_of direction policy else []) (net_places policies direction p)
    (All-if (StandsInNet direction) (net_selects policy p) (net_places_of direction policy)
    (numbered_all (StandsInNet direction) (λ (one : ℕ × NetRule). record { policy = policy; place = one.0; rule = one.1 }) (unwrap_or (net_rules_of direction policy) []) (λ k x at. at)))
    (net_stands direction p policies)

abbrev StandsInBase : Direction → Option BasePolicy → PlacedBaseRule → Type 0
StandsInBase direction baseline placed = option_and_then (λ policy. slice_get (base_rules_of direction policy) placed.place) baseline ≡ Some placed.rule

base_stands : (direction : Direction) (p : PodEnd) (baseline : Option BasePolicy) → AllByRecursion (StandsInBase direction baseline) (base_places baseline direction p)
base_stands direction p None = tt
base_stands direction p (Some policy) =
    let make : ℕ × AdminRule → PlacedBaseRule = λ one. record { place = one.0; rule = one.1 } in
    All-if (StandsInBase direction (Some policy)) (subject_selects policy.subject p) (map make (enumerate_from 0 (base_rules_of direction policy)))
    (numbered_all (StandsInBase direction (Some policy)) make (base_rules_of direction policy) (λ k x at. at))

-- ---- the first rule that matches speaks of the far end

-- what is right of each pair of a name and a rule, where the rule stands at its place
each_pair : {Y : Type 0} (R : RuleId → Y → Type 0) (Q : Y → Type 0) (S : RuleId → Y → Type 0) → ((id : RuleId) (y : Y) → R id y → Q y → S id y) → (ids : List RuleId) (ys : List Y) →
    Pairwise R ids ys → AllByRecursion Q ys → Pairwise S ids ys
each_pair R Q S gives [] [] related all = tt
each_pair R Q S gives [] (y ∷ ys) related all = absurd related
each_pair R Q S gives (id ∷ ids) [] related all = absurd related
each_pair R Q S gives (id ∷ ids) (y ∷ ys) related all = (gives id y related.0 all.0, each_pair R Q S gives ids ys related.1 all.1)

known_speaker : (flag speaks : Bool) → (not flag && speaks) ≡ false → speaks ≡ true → flag ≡ true
known_speaker true speaks silent is = refl
known_speaker false true silent is = absurd (false≢true (sym silent))
known_speaker false false silent is = is

-- where no rule speaks of a far end but those that are flagged, the first one that passes a test is flagged, if rules that pass it speak of the far end
pub first_flagged : {Y P : Type 0} (flag : ℕ → ℕ → Bool) (speaks : RuleId → Bool) (at : P → Bool) (make : Y → P) (ids : List RuleId) (ys : List Y) →
    Pairwise (λ id y. at (make y) ≡ true → speaks id ≡ true) ids ys → list_any (λ id. not (flag id.policy id.place) && speaks id) ids ≡ false → (policy place : ℕ) →
    names (first_at at (map make ys) ids) policy place ≡ true → flag policy place ≡ true
first_flagged flag speaks at make [] [] related silent policy place named = absurd (false≢true named)
first_flagged flag speaks at make [] (y ∷ ys) related silent policy place named = absurd related
first_flagged flag speaks at make (id ∷ ids) [] related silent policy place named = absurd related
first_flagged {Y} {P} flag speaks at make (id ∷ ids) (y ∷ ys) related silent policy place named =
    let parts = or_parts (not (flag id.policy id.place) && speaks id) (list_any (λ other. not (flag other.policy other.place) && speaks other) ids) silent in
    go (at (make y)) refl parts.0 (first_flagged flag speaks at make ids ys related.1 parts.1 policy place) named
  where
    go : (b : Bool) → at (make y) ≡ b → (not (flag id.policy id.place) && speaks id) ≡ false → (names (first_at at (map make ys) ids) policy place ≡ true → flag policy place ≡ true) →
        names (if b then Some id else first_at at (map make ys) ids) policy place ≡ true → flag policy place ≡ true
    go true is heard later named =
        let same = and_parts (policy == id.policy) (place == id.place) named in
        ap (λ (n : ℕ). flag n place) (eqb-true policy id.policy same.0)
        ∙ ap (flag id.policy) (eqb-true place id.place same.1)
        ∙ known_speaker (flag id.policy id.place) (speaks id) heard (related.0 is)
    go false is heard later named = later named

module _ (lists : EstateLists) (direction : Direction) (near : PodEnd) (contact : Contact) where
  -- the name of a rule of the side that matches speaks of the far end
  abbrev Speaks : Tier → RuleId → Bool → Type 0
  Speaks one id matches = matches ≡ true → rule_speaks lists direction one id contact.far contact.family ≡ true

  pub admin_speaks : (ids : List RuleId) → Pairwise (NamesAdmin lists.admin_policies) ids (admin_places lists.admin_policies direction near) →
      Pairwise (λ id placed. Speaks tier.Admin id (admin_rule_matches placed.rule contact)) ids (admin_places lists.admin_policies direction near)
  admin_speaks ids named = each_pair (NamesAdmin lists.admin_policies) (StandsInAdmin direction) _ one ids _ named (admin_stands direction near lists.admin_policies)
    where
      one : (id : RuleId) (placed : PlacedAdminRule) → NamesAdmin lists.admin_policies id placed → StandsInAdmin direction placed → Speaks tier.Admin id (admin_rule_matches placed.rule contact)
      one id placed is stands matches =
          ap (λ (found : Option AdminPolicy). option_map_or (admin_rule_reaches contact.far contact.family)
          (option_and_then (λ policy. slice_get (admin_rules_of direction policy) id.place) found) false) is.policy
          ∙ ap (λ (n : ℕ). option_map_or (admin_rule_reaches contact.far contact.family) (slice_get (admin_rules_of direction placed.policy) n) false) is.place
          ∙ ap (λ (found : Option AdminRule). option_map_or (admin_rule_reaches contact.far contact.family) found false) stands
          ∙ (and_parts (admin_rule_reaches contact.far contact.family placed.rule) _ matches).0

  pub net_speaks : (ids : List RuleId) → Pairwise (NamesNet lists.net_policies) ids (net_places lists.net_policies direction near) →
      Pairwise (λ id placed. Speaks tier.Net id (matches_of placed contact)) ids (net_places lists.net_policies direction near)
  net_speaks ids named = each_pair (NamesNet lists.net_policies) (StandsInNet direction) _ one ids _ named (net_stands direction near lists.net_policies)
    where
      one : (id : RuleId) (placed : PlacedNetRule) → NamesNet lists.net_policies id placed → StandsInNet direction placed → Speaks tier.Net id (matches_of placed contact)
      one id placed is stands matches =
          ap (λ (found : Option NetPolicy). option_map_or (net_rule_speaks direction id.place contact.far) found false) is.policy
          ∙ ap (λ (n : ℕ). net_rule_speaks direction n contact.far placed.policy) is.place
          ∙ ap (λ (found : Option NetRule). option_map_or (net_rule_reaches placed.policy.namespace contact.far) found false) stands
          ∙ (and_parts (net_rule_reaches placed.policy.namespace contact.far placed.rule) _ matches).0

  pub base_speaks : (ids : List RuleId) → Pairwise NamesBase ids (base_places lists.baseline direction near) →
      Pairwise (λ id placed. Speaks tier.Base id (admin_rule_matches placed.rule contact)) ids (base_places lists.baseline direction near)
  base_speaks ids named = each_pair NamesBase (StandsInBase direction lists.baseline) _ one ids _ named (base_stands direction near lists.baseline)
    where
      one : (id : RuleId) (placed : PlacedBaseRule) → NamesBase id placed → StandsInBase direction lists.baseline placed → Speaks tier.Base id (admin_rule_matches placed.rule contact)
      one id placed is stands matches =
          ap (λ (n : ℕ). option_map_or (admin_rule_reaches contact.far contact.family) (option_and_then (λ policy. slice_get (base_rules_of direction policy) n) lists.baseline) false) is.place
          ∙ ap (λ (found : Option AdminRule). option_map_or (admin_rule_reaches contact.far contact.family) found false) stands
          ∙ (and_parts (admin_rule_reaches contact.far contact.family placed.rule) _ matches).0
