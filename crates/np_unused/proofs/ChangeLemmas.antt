-- Where the rules that decide stay, a side says the same. For AllowLemmas.
use Rattle.std.proofs.Common.{◌≡◌, ℕ, ◌<◌, List, [], Bool, true, false, not, map, filter, find, is_some, slice_get, Option, Some, None, refl, sym, ap, ◌∙◌, subst, if◌then◌else◌, length, unwrap_or}
use Rattle.std.specs.List.{enumerate_from, list_any}
use Rattle.std.specs.Option.{option_map, option_map_or}
use Rattle.np_tiers.proofs.Verdicts.{whole_stands}
use Rattle.np_model.specs.Prelude.{IsLawful, action_says}
use Rattle.np_unused.specs.Prelude.{AdminPolicy, AdminRule, BasePolicy, Decider, Direction, EstateLists, NetPolicy, NetRule, RuleName, RuleRef, Tier, admin_without, base_without, goes, net_without, ref_of, rule_count_at, rule_in, rule_name, without}
use Rattle.np_explain.proofs.RuleLemmas.{net_decider_is_first}
use Rattle.np_rules.proofs.StrangerLemmas.{any-map}
use Rattle.np_unused.proofs.StayLemmas.{any_found, find_map, first_stays}
use Rattle.np_unused.proofs.WithoutLemmas.{IsAdminAt, IsBaseAt, IsNetAt, admin_are, admin_from, admin_left, admin_placed, admin_stays, ascending_left, base_are, base_from, base_left, base_placed, base_stays, isolated_left, net_are, net_from, net_left, net_placed, net_stays, spaced}
use Rattle.np_unused.specs.declared.rule_ref.Tier.TheVariants as tier
use Rattle.np_model.specs.declared.admin_policy.Action.{Action}
use Rattle.np_model.specs.declared.admin_policy.Action.TheVariants.{Allow, Deny, Pass}
use Rattle.np_rules.proofs.AdminTierLemmas.{decider_is_first}
use Rattle.np_rules.proofs.PairwiseLemmas.{map-map}
use Rattle.np_rules.specs.Prelude.{Contact, PlacedAdminRule, PlacedBaseRule, PlacedNetRule, PodEnd, action_decides, admin_decider, admin_decides, admin_places, admin_rule_matches, admin_rule_name, admin_rules_of, admin_says, base_decider, base_decides, base_places, base_says, decider, is_allow, is_isolated, isolating_names, lower_allows, lower_decider, net_decider, net_decides, net_places, net_policy_name, net_rule_matches, net_rule_name, net_rules_of, permits, placed_net_matches, pod, side_allows}
use Rattle.np_explain.proofs.NamedLemmas.{of_found}

-- ---- what rules say

abbrev says_by : Option AdminRule → Bool → Bool
says_by None below = below
says_by (Some rule) below = action_says rule.action below

says_rule : (found : Option PlacedAdminRule) (below : Bool) → admin_says found below ≡ says_by (option_map (λ placed. placed.rule) found) below
says_rule None below = refl
says_rule (Some placed) below = refl

abbrev base_says_by : Option AdminRule → Bool
base_says_by None = true
base_says_by (Some rule) = is_allow rule.action

base_rule_says : (found : Option PlacedBaseRule) → base_says found ≡ base_says_by (option_map (λ placed. placed.rule) found)
base_rule_says None = refl
base_rule_says (Some placed) = refl

choose_same : (b' b x' x y' y : Bool) → b' ≡ b → (b ≡ true → x' ≡ x) → (b ≡ false → y' ≡ y) → (if b' then x' else y') ≡ (if b then x else y)
choose_same true true x' x y' y same yes_same no_same = yes_same refl
choose_same false false x' x y' y same yes_same no_same = no_same refl
choose_same true false x' x y' y same yes_same no_same = cc
choose_same false true x' x y' y same yes_same no_same = cc

-- ---- the rules in what decides

module _ (lists : EstateLists) (direction : Direction) (p : PodEnd) (contact : Contact) where
  net_admin : (pass : Option RuleName) (found : Option PlacedNetRule) → rule_in tier.Admin (net_decides pass (isolating_names lists.net_policies direction p) found) ≡ pass
  net_admin pass None = refl
  net_admin pass (Some placed) = refl

  base_admin : (pass : Option RuleName) (found : Option PlacedBaseRule) → rule_in tier.Admin (base_decides pass found) ≡ pass
  base_admin pass None = refl
  base_admin pass (Some placed) = refl

  lower_in : (pass : Option RuleName) → rule_in tier.Admin (lower_decider lists direction p contact pass) ≡ pass
  lower_in pass = go (is_isolated lists.net_policies direction p)
    where
      go : (b : Bool) →
          rule_in tier.Admin (if b then net_decides pass (isolating_names lists.net_policies direction p) (net_decider lists.net_policies direction p contact) else base_decides pass
          (base_decider lists.baseline direction p contact)) ≡ pass
      go true = net_admin pass (net_decider lists.net_policies direction p contact)
      go false = base_admin pass (base_decider lists.baseline direction p contact)

  action_in : (action : Action) (rule : RuleName) → rule_in tier.Admin (action_decides action rule (lower_decider lists direction p contact)) ≡ Some rule
  action_in Allow rule = refl
  action_in Deny rule = refl
  action_in Pass rule = lower_in (Some rule)

  admin_in : (found : Option PlacedAdminRule) → rule_in tier.Admin (admin_decides found (lower_decider lists direction p contact)) ≡ option_map admin_rule_name found
  admin_in None = lower_in None
  admin_in (Some placed) = action_in placed.rule.action (admin_rule_name placed)

-- ---- a side without some rules

module _ (lists : EstateLists) (lawful : IsLawful lists) (gone : List RuleRef) (direction : Direction) (p : PodEnd) (contact : Contact) where
  abbrev what_decides : Decider
  what_decides = decider lists direction (pod p) contact

  -- a rule of the estate stays where it stands in what decides
  unfoldable pub Stays : Type 0
  Stays = (one : Tier) (policy place : ℕ) → place < rule_count_at lists one direction policy → rule_in one (decider lists direction (pod p) contact) ≡ Some
      (rule_name lists (ref_of direction one policy place)) → goes gone one policy direction place ≡ false

  abbrev matches : AdminRule → Bool
  matches rule = admin_rule_matches rule contact

  -- ---- admin rules

  abbrev admins : List (ℕ × PlacedAdminRule)
  admins = admin_from gone direction p 0 lists.admin_policies

  abbrev admin_test : ℕ × PlacedAdminRule → Bool
  admin_test x = admin_rule_matches x.1.rule contact

  admin_found : admin_decider lists.admin_policies direction p contact ≡ option_map (λ x. x.1) (find admin_test admins)
  admin_found =
      decider_is_first lists.admin_policies direction p contact lawful.admin_policies_ascend
      ∙ ap (find (λ placed. admin_rule_matches placed.rule contact)) (sym (admin_placed gone direction p 0 lists.admin_policies))
      ∙ find_map (λ x. x.1) (λ placed. admin_rule_matches placed.rule contact) admins

  some_name : (policy place : ℕ) (names : Option AdminPolicy) (placed : PlacedAdminRule) → names ≡ Some placed.policy → place ≡ placed.place →
      ◌≡◌ {A = RuleName} (record { policy = option_map_or (λ one. one.name) names []; place = place }) (admin_rule_name placed)
  some_name policy place names placed is at =
      let of_names : Option AdminPolicy → RuleName = λ found. record { policy = option_map_or (λ one. one.name) found []; place = place } in
      let of_place : ℕ → RuleName = λ n. record { policy = placed.policy.name; place = n } in
      ap of_names is ∙ ap of_place at

  admin_first_stays : Stays → (x : ℕ × PlacedAdminRule) → find admin_test admins ≡ Some x → admin_stays gone direction p x ≡ true
  unfolding Stays
  admin_first_stays stays x found =
      let at = of_found (IsAdminAt gone direction p lists.admin_policies) admin_test admins
      (admin_are gone direction p lists.admin_policies 0 lists.admin_policies (whole_stands lists.admin_policies)) x found in
      let count : Option AdminPolicy → ℕ = λ one. option_map_or (λ policy. length (admin_rules_of direction policy)) one 0 in
      let valid : x.1.place < rule_count_at lists tier.Admin direction x.0 = subst (λ (n : ℕ). x.1.place < n) (sym (ap count at.0)) at.1 in
      let decides : admin_decider lists.admin_policies direction p contact ≡ Some x.1 = admin_found ∙ ap (option_map (λ y. y.1)) found in
      let stands = admin_in lists direction p contact (admin_decider lists.admin_policies direction p contact) ∙ ap (option_map admin_rule_name) decides in
      ap not (stays tier.Admin x.0 x.1.place valid (stands ∙ ap {A = RuleName} Some (sym (some_name x.0 x.1.place (slice_get lists.admin_policies x.0) x.1 at.0 refl))))

  admin_rule_found : (policies : List AdminPolicy) → admin_decider policies direction p contact ≡ find (λ placed. admin_rule_matches placed.rule contact) (admin_places policies direction p) →
      option_map (λ placed. placed.rule) (admin_decider policies direction p contact) ≡ find matches (map (λ placed. placed.rule) (admin_places policies direction p))
  admin_rule_found policies first = ap (option_map (λ placed. placed.rule)) first ∙ sym (find_map (λ placed. placed.rule) matches (admin_places policies direction p))

  -- the first admin rule that matches is the same
  admin_same : Stays →
      option_map (λ placed. placed.rule) (admin_decider (map (admin_without gone) (enumerate_from 0 lists.admin_policies)) direction p contact) ≡ option_map (λ placed. placed.rule)
      (admin_decider lists.admin_policies direction p contact)
  admin_same stays =
      let policies = map (admin_without gone) (enumerate_from 0 lists.admin_policies) in
      admin_rule_found policies (decider_is_first policies direction p contact (ascending_left gone direction p lists.admin_policies lawful.admin_policies_ascend))
      ∙ ap (find matches) (admin_left gone direction p 0 lists.admin_policies)
      ∙ find_map (λ x. x.1.rule) matches (filter (admin_stays gone direction p) admins)
      ∙ ap (option_map (λ x. x.1.rule)) (first_stays admin_test (admin_stays gone direction p) admins (admin_first_stays stays))
      ∙ sym (find_map (λ x. x.1.rule) matches admins)
      ∙ ap (find matches) (sym (map-map (λ x. x.1) (λ placed. placed.rule) admins) ∙ ap (map (λ placed. placed.rule)) (admin_placed gone direction p 0 lists.admin_policies))
      ∙ sym (admin_rule_found lists.admin_policies (decider_is_first lists.admin_policies direction p contact lawful.admin_policies_ascend))

  -- ---- rules of NetworkPolicies

  abbrev nets : List (ℕ × PlacedNetRule)
  nets = net_from gone direction p 0 lists.net_policies

  abbrev net_test : ℕ × PlacedNetRule → Bool
  net_test x = placed_net_matches contact x.1

  abbrev spaced_test : List ℕ × NetRule → Bool
  spaced_test pair = net_rule_matches pair.0 pair.1 contact

  net_found : net_decider lists.net_policies direction p contact ≡ option_map (λ x. x.1) (find net_test nets)
  net_found =
      net_decider_is_first lists.net_policies direction p contact lawful.net_policies_ascend
      ∙ ap (find (placed_net_matches contact)) (sym (net_placed gone direction p 0 lists.net_policies))
      ∙ find_map (λ x. x.1) (placed_net_matches contact) nets

  net_name : (place : ℕ) (names : Option NetPolicy) (placed : PlacedNetRule) → names ≡ Some placed.policy → place ≡ placed.place →
      ◌≡◌ {A = RuleName} (record { policy = option_map_or net_policy_name names []; place = place }) (net_rule_name placed)
  net_name place names placed is at =
      let of_names : Option NetPolicy → RuleName = λ found. record { policy = option_map_or net_policy_name found []; place = place } in
      let of_place : ℕ → RuleName = λ n. record { policy = net_policy_name placed.policy; place = n } in
      ap of_names is ∙ ap of_place at

  net_first_stays : Stays → (pass : Option RuleName) → decider lists direction (pod p) contact ≡ lower_decider lists direction p contact pass → is_isolated lists.net_policies direction p ≡ true →
      (x : ℕ × PlacedNetRule) → find net_test nets ≡ Some x → net_stays gone direction p x ≡ true
  unfolding Stays
  net_first_stays stays pass lower isolated x found =
      let at = of_found (IsNetAt gone direction p lists.net_policies) net_test nets (net_are gone direction p lists.net_policies 0 lists.net_policies (whole_stands lists.net_policies)) x found in
      let count : Option NetPolicy → ℕ = λ one. option_map_or (λ policy. length (unwrap_or (net_rules_of direction policy) [])) one 0 in
      let valid : x.1.place < rule_count_at lists tier.Net direction x.0 = subst (λ (n : ℕ). x.1.place < n) (sym (ap count at.0)) at.1 in
      let decides : net_decider lists.net_policies direction p contact ≡ Some x.1 = net_found ∙ ap (option_map (λ y. y.1)) found in
      let by : Bool → Decider = λ b. if b then net_decides pass (isolating_names lists.net_policies direction p) (net_decider lists.net_policies direction p contact) else base_decides pass
      (base_decider lists.baseline direction p contact) in
      let here : decider lists direction (pod p) contact ≡ net_decides pass (isolating_names lists.net_policies direction p) (Some x.1) = lower ∙ ap by isolated ∙ ap
      (net_decides pass (isolating_names lists.net_policies direction p)) decides in
      ap not (stays tier.Net x.0 x.1.place valid (ap (rule_in tier.Net) here ∙ ap {A = RuleName} Some (sym (net_name x.1.place (slice_get lists.net_policies x.0) x.1 at.0 refl))))

  permits_spaced : (policies : List NetPolicy) → permits policies direction p contact ≡ list_any spaced_test (map spaced (net_places policies direction p))
  permits_spaced policies = sym (any-map spaced_test spaced (net_places policies direction p))

  net_same : Stays → (pass : Option RuleName) → decider lists direction (pod p) contact ≡ lower_decider lists direction p contact pass → is_isolated lists.net_policies direction p ≡ true →
      permits (map (net_without gone) (enumerate_from 0 lists.net_policies)) direction p contact ≡ permits lists.net_policies direction p contact
  net_same stays pass lower isolated =
      permits_spaced (map (net_without gone) (enumerate_from 0 lists.net_policies))
      ∙ ap (list_any spaced_test) (net_left gone direction p 0 lists.net_policies)
      ∙ any-map spaced_test (λ x. spaced x.1) (filter (net_stays gone direction p) nets)
      ∙ any_found net_test (filter (net_stays gone direction p) nets)
      ∙ ap is_some (first_stays net_test (net_stays gone direction p) nets (net_first_stays stays pass lower isolated))
      ∙ sym (any_found net_test nets)
      ∙ sym (any-map (placed_net_matches contact) (λ x. x.1) nets)
      ∙ ap (list_any (placed_net_matches contact)) (net_placed gone direction p 0 lists.net_policies)

  -- ---- rules of the baseline

  abbrev bases : List (ℕ × PlacedBaseRule)
  bases = base_from gone direction p lists.baseline

  abbrev base_test : ℕ × PlacedBaseRule → Bool
  base_test x = admin_rule_matches x.1.rule contact

  base_found : base_decider lists.baseline direction p contact ≡ option_map (λ x. x.1) (find base_test bases)
  base_found =
      ap (find (λ placed. admin_rule_matches placed.rule contact)) (sym (base_placed gone direction p lists.baseline))
      ∙ find_map (λ x. x.1) (λ placed. admin_rule_matches placed.rule contact) bases

  base_first_stays : Stays → (pass : Option RuleName) → decider lists direction (pod p) contact ≡ lower_decider lists direction p contact pass → is_isolated lists.net_policies direction p ≡ false →
      (x : ℕ × PlacedBaseRule) → find base_test bases ≡ Some x → base_stays gone direction p x ≡ true
  unfolding Stays
  base_first_stays stays pass lower free x found =
      let at = of_found (IsBaseAt gone direction p lists.baseline) base_test bases (base_are gone direction p lists.baseline) x found in
      let valid : x.1.place < rule_count_at lists tier.Base direction x.0 = subst (λ (n : ℕ). x.1.place < rule_count_at lists tier.Base direction n) (sym at.0) at.1 in
      let decides : base_decider lists.baseline direction p contact ≡ Some x.1 = base_found ∙ ap (option_map (λ y. y.1)) found in
      let by : Bool → Decider = λ b. if b then net_decides pass (isolating_names lists.net_policies direction p) (net_decider lists.net_policies direction p contact) else base_decides pass
      (base_decider lists.baseline direction p contact) in
      let here : decider lists direction (pod p) contact ≡ base_decides pass (Some x.1) = lower ∙ ap by free ∙ ap (base_decides pass) decides in
      ap not (stays tier.Base x.0 x.1.place valid (ap (rule_in tier.Base) here))

  base_rule_found : (baseline : Option BasePolicy) →
      option_map (λ placed. placed.rule) (base_decider baseline direction p contact) ≡ find matches (map (λ placed. placed.rule) (base_places baseline direction p))
  base_rule_found baseline = sym (find_map (λ placed. placed.rule) matches (base_places baseline direction p))

  base_same : Stays → (pass : Option RuleName) → decider lists direction (pod p) contact ≡ lower_decider lists direction p contact pass → is_isolated lists.net_policies direction p ≡ false →
      base_says (base_decider (option_map (base_without gone) lists.baseline) direction p contact) ≡ base_says (base_decider lists.baseline direction p contact)
  base_same stays pass lower free =
      base_rule_says (base_decider (option_map (base_without gone) lists.baseline) direction p contact)
      ∙ ap base_says_by
      (base_rule_found (option_map (base_without gone) lists.baseline)
      ∙ ap (find matches) (base_left gone direction p lists.baseline)
      ∙ find_map (λ x. x.1.rule) matches (filter (base_stays gone direction p) bases)
      ∙ ap (option_map (λ x. x.1.rule)) (first_stays base_test (base_stays gone direction p) bases (base_first_stays stays pass lower free))
      ∙ sym (find_map (λ x. x.1.rule) matches bases)
      ∙ ap (find matches) (sym (map-map (λ x. x.1) (λ placed. placed.rule) bases) ∙ ap (map (λ placed. placed.rule)) (base_placed gone direction p lists.baseline))
      ∙ sym (base_rule_found lists.baseline))
      ∙ sym (base_rule_says (base_decider lists.baseline direction p contact))

  -- ---- all tiers

  -- below the admin tier, where that decides nothing
  lower_same : Stays → (pass : Option RuleName) → decider lists direction (pod p) contact ≡ lower_decider lists direction p contact pass →
      lower_allows (without lists gone) direction p contact ≡ lower_allows lists direction p contact
  unfolding without
  lower_same stays pass lower =
      choose_same (is_isolated (map (net_without gone) (enumerate_from 0 lists.net_policies)) direction p) (is_isolated lists.net_policies direction p)
      (permits (map (net_without gone) (enumerate_from 0 lists.net_policies)) direction p contact) (permits lists.net_policies direction p contact)
      (base_says (base_decider (option_map (base_without gone) lists.baseline) direction p contact)) (base_says (base_decider lists.baseline direction p contact))
      (isolated_left gone direction p 0 lists.net_policies) (net_same stays pass lower) (base_same stays pass lower)

  -- what the first admin rule says, where the tiers below say the same if they are asked
  says_same : (found : Option PlacedAdminRule) (below' below : Bool) →
      ((pass : Option RuleName) → admin_decides found (lower_decider lists direction p contact) ≡ lower_decider lists direction p contact pass → below' ≡ below) →
      says_by (option_map (λ placed. placed.rule) found) below' ≡ says_by (option_map (λ placed. placed.rule) found) below
  says_same None below' below same = same None refl
  says_same (Some placed) below' below same = by placed.rule.action refl
    where
      by : (action : Action) → placed.rule.action ≡ action → action_says placed.rule.action below' ≡ action_says placed.rule.action below
      by Allow is = ap (λ (a : Action). action_says a below') is ∙ sym (ap (λ (a : Action). action_says a below) is)
      by Deny is = ap (λ (a : Action). action_says a below') is ∙ sym (ap (λ (a : Action). action_says a below) is)
      by Pass is =
          ap (λ (a : Action). action_says a below') is
          ∙ same (Some (admin_rule_name placed)) (ap (λ (a : Action). action_decides a (admin_rule_name placed) (lower_decider lists direction p contact)) is)
          ∙ sym (ap (λ (a : Action). action_says a below) is)

  pub side_same : Stays → side_allows (without lists gone) direction p contact ≡ side_allows lists direction p contact
  unfolding side_allows without
  side_same stays =
      let policies = map (admin_without gone) (enumerate_from 0 lists.admin_policies) in
      let rule_of : Option PlacedAdminRule → Option AdminRule = option_map (λ placed. placed.rule) in
      let below' = lower_allows (without lists gone) direction p contact in
      let below = lower_allows lists direction p contact in
      says_rule (admin_decider policies direction p contact) below'
      ∙ ap (λ (found : Option AdminRule). says_by found below') (admin_same stays)
      ∙ says_same (admin_decider lists.admin_policies direction p contact) below' below (λ pass lower. lower_same stays pass lower)
      ∙ sym (says_rule (admin_decider lists.admin_policies direction p contact) below)
