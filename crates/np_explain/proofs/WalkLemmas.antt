-- The mark of a spot stands for what decides it, whatever the spots are. For `parts_with` and crates above.
use Rattle.std.proofs.Common.{◌≡◌, ℕ, ◌+◌, List, [], ◌∷◌, Bool, true, false, find, Option, Some, None, refl, sym, ap, ◌∙◌, subst, if◌then◌else◌}
use Rattle.std.specs.List.{enumerate_from, position_from, slice_get}
use Rattle.std.specs.Option.{option_map, option_map_or}
use Rattle.std.proofs.lemmas.Option.{slice_get_within}
use Rattle.np_base.proofs.Options.{some_is}
use Rattle.np_conns.specs.Prelude.{Conns, has_spot, is_spot}
use Rattle.np_explain.specs.Prelude.{Action, AdminPart, Decider, IsMarkOf, IsPassOf, Layer, Mark, PortSpot, RuleName, SaysActions, admin_rules, base_rules, mark_decider, net_rules, pass_name}
use Rattle.np_model.specs.Prelude.{IsLawful}
use Rattle.np_explain.proofs.RuleLemmas.{net_decider_is_first}
use Rattle.np_model.specs.declared.admin_policy.Action.TheVariants as acts
use Rattle.np_rules.proofs.AdminTierLemmas.{decider_is_first}
use Rattle.np_rules.specs.Prelude.{Contact, IsAdminPart, IsBasePart, IsLayer, IsSetOf, Pairwise, PlacedAdminRule, PlacedBaseRule, PlacedNetRule, PodSide, action_decides, admin_decides, admin_rule_matches, admin_rule_name, base_decider, base_decides, base_rule_name, decider, is_allow, is_isolated, isolating_names, lower_decider, matches_of, near_pod, net_decider, net_decides, net_rule_name, placed_net_matches, pod}
use Rattle.np_rules.specs.declared.decider.Decider.TheVariants as decider
use Rattle.np_tiers.specs.Prelude.{action_mark, admin_mark, base_mark, lower_mark, mark_of, net_mark}
use Rattle.np_tiers.proofs.Verdicts.{StandsAt, whole_stands, first_stands, rest_stands}

-- ---- places and items

-- the first set that has a spot stands at the place of the first item that passes
found : {S X : Type 0} (at : S → Bool) (test : X → Bool) (all : List X) (n : ℕ) (sets : List S) (items : List X) → Pairwise (λ set item. at set ≡ test item) sets items → StandsAt all n items →
    option_map (slice_get all) (position_from at n sets) ≡ option_map Some (find test items)
found at test all n [] [] related stands = refl
found at test all n [] (x ∷ items) related stands = absurd related
found at test all n (set ∷ sets) [] related stands = absurd related
found {S} {X} at test all n (set ∷ sets) (x ∷ items) related stands =
    rw related.0 (go (test x) (found at test all (n + 1) sets items related.1 (rest_stands all n x items stands)))
  where
    go : (b : Bool) → option_map (slice_get all) (position_from at (n + 1) sets) ≡ option_map Some (find test items) →
        option_map (slice_get all) (if b then Some n else position_from at (n + 1) sets) ≡ option_map Some (if b then Some x else find test items)
    go true rest = ap {A = Option X} Some (first_stands all n x items stands)
    go false rest = rest

-- the rule at the place of an admin part, and what the part says; and a rule with what it says
abbrev seen : {S : Type 0} → List PlacedAdminRule → ℕ × AdminPart S → Option PlacedAdminRule × Action
seen all numbered = (slice_get all numbered.0, numbered.1.action)

abbrev spoken : PlacedAdminRule → Option PlacedAdminRule × Action
spoken placed = (Some placed, placed.rule.action)

-- so it is for the admin parts, of which each says what its rule says
admin_found : {S : Type 0} (at : S → Bool) (test : PlacedAdminRule → Bool) (all : List PlacedAdminRule) (n : ℕ) (parts : List (AdminPart S)) (items : List PlacedAdminRule) →
    Pairwise (λ part placed. (part.action ≡ placed.rule.action) × (at part.set ≡ test placed)) parts items → StandsAt all n items →
    option_map (seen all) (find (λ numbered. at numbered.1.set) (enumerate_from n parts)) ≡ option_map spoken (find test items)
admin_found at test all n [] [] related stands = refl
admin_found at test all n [] (placed ∷ items) related stands = absurd related
admin_found at test all n (part ∷ parts) [] related stands = absurd related
admin_found at test all n (part ∷ parts) (placed ∷ items) related stands =
    rw related.0.1 (go (test placed) (admin_found at test all (n + 1) parts items related.1 (rest_stands all n placed items stands)))
  where
    go : (b : Bool) → option_map (seen all) (find (λ numbered. at numbered.1.set) (enumerate_from (n + 1) parts)) ≡ option_map spoken (find test items) →
        option_map (seen all) (if b then Some (n, part) else find (λ numbered. at numbered.1.set) (enumerate_from (n + 1) parts)) ≡ option_map spoken (if b then Some placed else find test items)
    go true rest = cc (first_stands all n placed items stands, related.0.0)
    go false rest = rest

none_is_some : {X A : Type 0} (x : X) → None ≡ Some x → A
none_is_some x same = cc

some_is_none : {X A : Type 0} (x : X) → Some x ≡ None → A
some_is_none x same = cc

-- ---- what the marks of each tier stand for, and that their places are there

net_named : (side : PodSide) (pass : Option ℕ) (place : Option ℕ) (decides : Option PlacedNetRule) → IsPassOf side pass → option_map (slice_get (net_rules side)) place ≡ option_map Some decides →
    (mark_decider side (net_mark pass place) ≡ net_decides (pass_name side pass) (isolating_names side.lists.net_policies side.direction (near_pod side)) decides) × IsMarkOf side (net_mark pass place)
net_named side pass None None there same = (refl, there)
net_named side pass None (Some placed) there same = none_is_some _ same
net_named side pass (Some place) None there same = some_is_none _ same
net_named side pass (Some place) (Some placed) there same =
    let is : slice_get (net_rules side) place ≡ Some placed = some_is _ _ same in
    let named : Option PlacedNetRule → Decider = λ o. option_map_or (λ p. decider.Net (pass_name side pass) (net_rule_name p)) o decider.NoSide in
    (ap named is, (there, slice_get_within (net_rules side) place placed is))

base_named : (side : PodSide) (pass : Option ℕ) (place : Option ℕ) (decides : Option PlacedBaseRule) → IsPassOf side pass → option_map (slice_get (base_rules side)) place ≡ option_map Some decides →
    (mark_decider side (base_mark pass place) ≡ base_decides (pass_name side pass) decides) × IsMarkOf side (base_mark pass place)
base_named side pass None None there same = (refl, there)
base_named side pass None (Some placed) there same = none_is_some _ same
base_named side pass (Some place) None there same = some_is_none _ same
base_named side pass (Some place) (Some placed) there same =
    let is : slice_get (base_rules side) place ≡ Some placed = some_is _ _ same in
    let named : Option PlacedBaseRule → Decider = λ o. option_map_or (λ p. decider.Base (pass_name side pass) (base_rule_name p) (is_allow p.rule.action)) o decider.NoSide in
    (ap named is, (there, slice_get_within (base_rules side) place placed is))

-- the rule at a place, with what it says: where it passes, the tiers below decide
action_named : (side : PodSide) (place : ℕ) (placed : PlacedAdminRule) (action : Action) (lower : Option ℕ → Mark) (decides : Option RuleName → Decider) →
    slice_get (admin_rules side) place ≡ Some placed → placed.rule.action ≡ action →
    ((pass : Option ℕ) → IsPassOf side pass → (mark_decider side (lower pass) ≡ decides (pass_name side pass)) × IsMarkOf side (lower pass)) →
    (mark_decider side (action_mark action place lower) ≡ action_decides action (admin_rule_name placed) decides) × IsMarkOf side (action_mark action place lower)
action_named side place placed acts.Allow lower decides is says below =
    let named : Option PlacedAdminRule → Decider = λ o. option_map_or (λ p. decider.Admin (admin_rule_name p) (is_allow p.rule.action)) o decider.NoSide in
    let allows : Action → Decider = λ a. decider.Admin (admin_rule_name placed) (is_allow a) in
    (ap named is ∙ ap allows says, slice_get_within (admin_rules side) place placed is)
action_named side place placed acts.Deny lower decides is says below =
    let named : Option PlacedAdminRule → Decider = λ o. option_map_or (λ p. decider.Admin (admin_rule_name p) (is_allow p.rule.action)) o decider.NoSide in
    let allows : Action → Decider = λ a. decider.Admin (admin_rule_name placed) (is_allow a) in
    (ap named is ∙ ap allows says, slice_get_within (admin_rules side) place placed is)
action_named side place placed acts.Pass lower decides is says below =
    let met : Option PlacedAdminRule → Decider = λ o. decides (option_map admin_rule_name o) in
    let passed = below (Some place) (slice_get_within (admin_rules side) place placed is) in
    (passed.0 ∙ ap met is, passed.1)

admin_named : {S : Type 0} (side : PodSide) (numbered : Option (ℕ × AdminPart S)) (decides : Option PlacedAdminRule) (lower : Option ℕ → Mark) (below : Option RuleName → Decider) →
    option_map (seen (admin_rules side)) numbered ≡ option_map spoken decides →
    ((pass : Option ℕ) → IsPassOf side pass → (mark_decider side (lower pass) ≡ below (pass_name side pass)) × IsMarkOf side (lower pass)) →
    (mark_decider side (admin_mark numbered lower) ≡ admin_decides decides below) × IsMarkOf side (admin_mark numbered lower)
admin_named side None None lower below same lowers = lowers None tt
admin_named side None (Some placed) lower below same lowers = none_is_some _ same
admin_named side (Some numbered) None lower below same lowers = some_is_none _ same
admin_named side (Some numbered) (Some placed) lower below same lowers =
    let pair : (slice_get (admin_rules side) numbered.0, numbered.1.action) ≡ (Some placed, placed.rule.action) = some_is _ _ same in
    let is : slice_get (admin_rules side) numbered.0 ≡ Some placed = ap (λ (p : Option PlacedAdminRule × Action). p.0) pair in
    let says : numbered.1.action ≡ placed.rule.action = ap (λ (p : Option PlacedAdminRule × Action). p.1) pair in
    subst (λ (action : Action). (mark_decider side (action_mark action numbered.0 lower) ≡ action_decides placed.rule.action (admin_rule_name placed) below) × IsMarkOf side
    (action_mark action numbered.0 lower)) (sym says)
    (action_named side numbered.0 placed placed.rule.action lower below is refl lowers)

-- ---- the whole walk

Pairwise-weaker : {A B : Type 0} (R S : A → B → Type 0) → ((x : A) (y : B) → R x y → S x y) → (xs : List A) (ys : List B) → Pairwise R xs ys → Pairwise S xs ys
Pairwise-weaker R S weaker [] [] related = tt
Pairwise-weaker R S weaker [] (y ∷ ys) related = absurd related
Pairwise-weaker R S weaker (x ∷ xs) [] related = absurd related
Pairwise-weaker R S weaker (x ∷ xs) (y ∷ ys) related = (weaker x y related.0, Pairwise-weaker R S weaker xs ys related.1)

-- the parts of a layer say what the rules at their places say
pub says_of : (side : PodSide) (looks_at : PortSpot → Contact) (layer : Layer Conns) → IsLayer has_spot is_spot looks_at side.lists side.direction (near_pod side) layer → SaysActions side layer
says_of side looks_at layer is = record {
  admin = Pairwise-weaker (λ part placed. IsAdminPart has_spot is_spot looks_at part placed.rule) (λ part placed. part.action ≡ placed.rule.action)
      (λ part placed one. one.action) layer.admin (admin_rules side) is.admin;
  base = Pairwise-weaker (λ part placed. IsBasePart has_spot is_spot looks_at part placed.rule) (λ part placed. part.allow ≡ is_allow placed.rule.action) (λ part placed one. one.allow) layer.base
      (base_rules side) is.base;
}

module _ {S Spot : Type 0} (has : S → Spot → Bool) (in_space : Spot → Bool) (side : PodSide) (looks_at : Spot → Contact) (layer : Layer S) (lawful : IsLawful side.lists)
    (is : IsLayer has in_space looks_at side.lists side.direction (near_pod side) layer) (spot : Spot) (within : in_space spot ≡ true) where
  nets : option_map (slice_get (net_rules side)) (position_from (λ set. has set spot) 0 layer.net) ≡ option_map Some (find (placed_net_matches (looks_at spot)) (net_rules side))
  nets =
      found (λ set. has set spot) (placed_net_matches (looks_at spot)) (net_rules side) 0 layer.net (net_rules side)
      (Pairwise-weaker (λ set placed. IsSetOf has in_space looks_at set (matches_of placed)) (λ set placed. has set spot ≡ placed_net_matches (looks_at spot) placed)
      (λ set placed members. members spot within) layer.net (net_rules side) is.net)
      (whole_stands (net_rules side))

  bases : option_map (slice_get (base_rules side)) (position_from (λ part. has part.set spot) 0 layer.base) ≡ option_map Some
      (find (λ placed. admin_rule_matches placed.rule (looks_at spot)) (base_rules side))
  bases =
      found (λ part. has part.set spot) (λ placed. admin_rule_matches placed.rule (looks_at spot)) (base_rules side) 0 layer.base (base_rules side)
      (Pairwise-weaker (λ part placed. IsBasePart has in_space looks_at part placed.rule) (λ part placed. has part.set spot ≡ admin_rule_matches placed.rule (looks_at spot))
      (λ part placed one. one.members spot within) layer.base (base_rules side) is.base)
      (whole_stands (base_rules side))

  admins : option_map (seen (admin_rules side)) (find (λ n. has n.1.set spot) (enumerate_from 0 layer.admin)) ≡ option_map spoken
      (find (λ placed. admin_rule_matches placed.rule (looks_at spot)) (admin_rules side))
  admins =
      admin_found (λ set. has set spot) (λ placed. admin_rule_matches placed.rule (looks_at spot)) (admin_rules side) 0 layer.admin (admin_rules side)
      (Pairwise-weaker (λ part placed. IsAdminPart has in_space looks_at part placed.rule)
      (λ part placed. (part.action ≡ placed.rule.action) × (has part.set spot ≡ admin_rule_matches placed.rule (looks_at spot)))
      (λ part placed one. (one.action, one.members spot within)) layer.admin (admin_rules side) is.admin)
      (whole_stands (admin_rules side))

  -- below the admin tier
  lower_named : (pass : Option ℕ) → IsPassOf side pass →
      (mark_decider side (lower_mark (λ set. has set spot) layer pass) ≡ lower_decider side.lists side.direction (near_pod side) (looks_at spot) (pass_name side pass)) × IsMarkOf side
      (lower_mark (λ set. has set spot) layer pass)
  lower_named pass there =
      by (is_isolated side.lists.net_policies side.direction (near_pod side)) layer.isolated is.isolated
    where
      names : List (List ℕ)
      names = isolating_names side.lists.net_policies side.direction (near_pod side)

      by : (isolated made : Bool) → made ≡ isolated →
          (mark_decider side (if made then net_mark pass (position_from (λ set. has set spot) 0 layer.net) else base_mark pass (position_from (λ part. has part.set spot) 0 layer.base)) ≡
          (if isolated then net_decides (pass_name side pass) names (net_decider side.lists.net_policies side.direction (near_pod side) (looks_at spot)) else base_decides (pass_name side pass)
          (base_decider side.lists.baseline side.direction (near_pod side) (looks_at spot)))) × IsMarkOf side
          (if made then net_mark pass (position_from (λ set. has set spot) 0 layer.net) else base_mark pass (position_from (λ part. has part.set spot) 0 layer.base))
      by true true same =
          let one = net_named side pass (position_from (λ set. has set spot) 0 layer.net) (find (placed_net_matches (looks_at spot)) (net_rules side)) there nets in
          (one.0 ∙ ap (net_decides (pass_name side pass) names) (sym (net_decider_is_first side.lists.net_policies side.direction (near_pod side) (looks_at spot) lawful.net_policies_ascend)), one.1)
      by false false same = base_named side pass (position_from (λ part. has part.set spot) 0 layer.base)
          (find (λ placed. admin_rule_matches placed.rule (looks_at spot)) (base_rules side)) there bases
      by true false same = cc
      by false true same = cc

  -- What the mark of a spot stands for decides it, and the rules at its places are there.
  pub mark_named : (mark_decider side (mark_of (λ set. has set spot) layer) ≡ decider side.lists side.direction (pod (near_pod side)) (looks_at spot)) × IsMarkOf side
      (mark_of (λ set. has set spot) layer)
  mark_named =
      let one = admin_named side (find (λ n. has n.1.set spot) (enumerate_from 0 layer.admin)) (find (λ placed. admin_rule_matches placed.rule (looks_at spot)) (admin_rules side))
      (lower_mark (λ set. has set spot) layer) (lower_decider side.lists side.direction (near_pod side) (looks_at spot)) admins lower_named in (
        one.0 ∙ ap (λ decides. admin_decides decides (lower_decider side.lists side.direction (near_pod side) (looks_at spot)))
            (sym (decider_is_first side.lists.admin_policies side.direction (near_pod side) (looks_at spot) lawful.admin_policies_ascend)),
        one.1,
      )
