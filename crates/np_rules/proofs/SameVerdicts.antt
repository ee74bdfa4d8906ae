-- Pods that the same policies select have the same verdict and decider of contacts that their rules do not tell apart.
-- For SameSideLemmas and crates above.
use Rattle.std.proofs.Common.{◌≡◌, List, [], ◌∷◌, ◌++◌, ◌&&◌, map, filter, find, Option, None, Some, is_some, refl, ap, ◌∙◌, if◌then◌else◌}
use Rattle.std.specs.Prelude.{IfSome}
use Rattle.std.specs.List.{AllByRecursion, enumerate_from, list_any}
use Rattle.np_base.proofs.Each.{All-weaker}
use Rattle.np_rules.proofs.EachItem.{filter-same, find-same, list_any-same}
use Rattle.np_rules.specs.Prelude.{Action, AdminPolicy, Allow, BasePolicy, Contact, Decider, Deny, Direction, EstateLists, NetPolicy, Pass, PlacedAdminRule, PodEnd, RuleName, action_decides, admin_decider, admin_decides, admin_places, admin_places_of, admin_precedes, admin_rule_matches, admin_rule_name, admin_says, base_decider, base_decides, base_places, base_rules_of, base_says, decider, is_isolated, isolates, isolating_names, least_by, lower_allows, lower_decider, net_decider, net_decides, net_places, net_places_of, net_policy_name, net_precedes, net_rules_of, net_selects, permits, placed_net_matches, pod, side_allows, subject_selects}

-- ---- pods

-- each policy selects both pods, or neither
pub record SelectAlike (lists : EstateLists) (p q : PodEnd) : Type 0 where
  pub admin : AllByRecursion (λ policy. subject_selects policy.subject p ≡ subject_selects policy.subject q) lists.admin_policies
  pub net : AllByRecursion (λ policy. net_selects policy p ≡ net_selects policy q) lists.net_policies
  pub base : IfSome lists.baseline (λ policy. subject_selects policy.subject p ≡ subject_selects policy.subject q)

-- the same rules speak of two pods
pub record SamePlaces (lists : EstateLists) (direction : Direction) (p q : PodEnd) : Type 0 where
  pub admin : admin_places lists.admin_policies direction p ≡ admin_places lists.admin_policies direction q
  pub net : net_places lists.net_policies direction p ≡ net_places lists.net_policies direction q
  pub base : base_places lists.baseline direction p ≡ base_places lists.baseline direction q

module _ (direction : Direction) (p q : PodEnd) where
  admin_places-same : (policies : List AdminPolicy) → AllByRecursion (λ policy. subject_selects policy.subject p ≡ subject_selects policy.subject q) policies →
      admin_places policies direction p ≡ admin_places policies direction q
  admin_places-same [] each = refl
  admin_places-same (policy ∷ policies) each =
      ap (λ b. (if b then admin_places_of direction policy else []) ++ admin_places policies direction p) each.0
      ∙ ap (λ rest. (if subject_selects policy.subject q then admin_places_of direction policy else []) ++ rest) (admin_places-same policies each.1)

  net_places-same : (policies : List NetPolicy) → AllByRecursion (λ policy. net_selects policy p ≡ net_selects policy q) policies →
      net_places policies direction p ≡ net_places policies direction q
  net_places-same [] each = refl
  net_places-same (policy ∷ policies) each =
      ap (λ b. (if b then net_places_of direction policy else []) ++ net_places policies direction p) each.0
      ∙ ap (λ rest. (if net_selects policy q then net_places_of direction policy else []) ++ rest) (net_places-same policies each.1)

  base_places-same : (baseline : Option BasePolicy) → IfSome baseline (λ policy. subject_selects policy.subject p ≡ subject_selects policy.subject q) →
      base_places baseline direction p ≡ base_places baseline direction q
  base_places-same None alike = refl
  base_places-same (Some policy) alike =
      ap (λ b. if b then map (λ numbered. record { place = numbered.0; rule = numbered.1 }) (enumerate_from 0 (base_rules_of direction policy)) else []) alike

pub same_places : (lists : EstateLists) (direction : Direction) (p q : PodEnd) → SelectAlike lists p q → SamePlaces lists direction p q
same_places lists direction p q selected = record {
  admin = admin_places-same direction p q lists.admin_policies selected.admin;
  net = net_places-same direction p q lists.net_policies selected.net;
  base = base_places-same direction p q lists.baseline selected.base;
}

-- ---- contacts

-- each rule that speaks of a pod matches both contacts, or neither
pub record MatchAlike (lists : EstateLists) (direction : Direction) (q : PodEnd) (one other : Contact) : Type 0 where
  pub admin : AllByRecursion (λ placed. admin_rule_matches placed.rule one ≡ admin_rule_matches placed.rule other) (admin_places lists.admin_policies direction q)
  pub net : AllByRecursion (λ placed. placed_net_matches one placed ≡ placed_net_matches other placed) (net_places lists.net_policies direction q)
  pub base : AllByRecursion (λ placed. admin_rule_matches placed.rule one ≡ admin_rule_matches placed.rule other) (base_places lists.baseline direction q)

-- what an admin rule hands down may be known pass by pass
admin_decides-same : (placed : Option PlacedAdminRule) (lower lower' : Option RuleName → Decider) → ((pass : Option RuleName) → lower pass ≡ lower' pass) →
    admin_decides placed lower ≡ admin_decides placed lower'
admin_decides-same None lower lower' same = same None
admin_decides-same (Some placed) lower lower' same = by placed.rule.action
  where
    by : (action : Action) → action_decides action (admin_rule_name placed) lower ≡ action_decides action (admin_rule_name placed) lower'
    by Allow = refl
    by Deny = refl
    by Pass = same (Some (admin_rule_name placed))

module _ (lists : EstateLists) (direction : Direction) (p q : PodEnd) (one other : Contact) (selected : SelectAlike lists p q) (matched : MatchAlike lists direction q one other) where
  places : SamePlaces lists direction p q
  places = same_places lists direction p q selected

  admin-same : admin_decider lists.admin_policies direction p one ≡ admin_decider lists.admin_policies direction q other
  admin-same =
      ap (λ all. least_by admin_precedes (filter (λ placed. admin_rule_matches placed.rule one) all)) places.admin
      ∙ ap (least_by admin_precedes)
      (filter-same (λ placed. admin_rule_matches placed.rule one) (λ placed. admin_rule_matches placed.rule other) (admin_places lists.admin_policies direction q) matched.admin)

  base-same : base_decider lists.baseline direction p one ≡ base_decider lists.baseline direction q other
  base-same =
      ap (find (λ placed. admin_rule_matches placed.rule one)) places.base
      ∙ find-same (λ placed. admin_rule_matches placed.rule one) (λ placed. admin_rule_matches placed.rule other) (base_places lists.baseline direction q) matched.base

  isolates-same : AllByRecursion (λ policy. isolates direction p policy ≡ isolates direction q policy) lists.net_policies
  isolates-same =
      All-weaker (λ policy. net_selects policy p ≡ net_selects policy q) (λ policy. isolates direction p policy ≡ isolates direction q policy)
      (λ policy is. ap (λ b. b && is_some (net_rules_of direction policy)) is) lists.net_policies selected.net

  isolated-same : is_isolated lists.net_policies direction p ≡ is_isolated lists.net_policies direction q
  isolated-same = list_any-same (isolates direction p) (isolates direction q) lists.net_policies isolates-same

  permits-same : permits lists.net_policies direction p one ≡ permits lists.net_policies direction q other
  permits-same =
      ap (list_any (placed_net_matches one)) places.net
      ∙ list_any-same (placed_net_matches one) (placed_net_matches other) (net_places lists.net_policies direction q) matched.net

  lower-same : lower_allows lists direction p one ≡ lower_allows lists direction q other
  lower-same =
      ap (λ b. if b then permits lists.net_policies direction p one else base_says (base_decider lists.baseline direction p one)) isolated-same
      ∙ ap (λ b. if is_isolated lists.net_policies direction q then b else base_says (base_decider lists.baseline direction p one)) permits-same
      ∙ ap (λ decides. if is_isolated lists.net_policies direction q then permits lists.net_policies direction q other else base_says decides) base-same

  pub pods_allow-same : side_allows lists direction p one ≡ side_allows lists direction q other
  unfolding side_allows
  pods_allow-same =
      ap (λ decides. admin_says decides (lower_allows lists direction p one)) admin-same
      ∙ ap (admin_says (admin_decider lists.admin_policies direction q other)) lower-same

  -- ---- what decides

  net-same : net_decider lists.net_policies direction p one ≡ net_decider lists.net_policies direction q other
  net-same =
      ap (λ all. least_by net_precedes (filter (placed_net_matches one) all)) places.net
      ∙ ap (least_by net_precedes) (filter-same (placed_net_matches one) (placed_net_matches other) (net_places lists.net_policies direction q) matched.net)

  names-same : isolating_names lists.net_policies direction p ≡ isolating_names lists.net_policies direction q
  names-same = ap (map net_policy_name) (filter-same (isolates direction p) (isolates direction q) lists.net_policies isolates-same)

  lower_decider-same : (pass : Option RuleName) → lower_decider lists direction p one pass ≡ lower_decider lists direction q other pass
  lower_decider-same pass =
      ap (λ b. if b then net_decides pass (isolating_names lists.net_policies direction p) (net_decider lists.net_policies direction p one) else base_decides pass
      (base_decider lists.baseline direction p one)) isolated-same
      ∙ ap (λ names. if is_isolated lists.net_policies direction q then net_decides pass names (net_decider lists.net_policies direction p one) else base_decides pass
      (base_decider lists.baseline direction p one)) names-same
      ∙ ap (λ decides. if is_isolated lists.net_policies direction q then net_decides pass (isolating_names lists.net_policies direction q) decides else base_decides pass
      (base_decider lists.baseline direction p one)) net-same
      ∙ ap (λ decides. if is_isolated lists.net_policies direction q then net_decides pass (isolating_names lists.net_policies direction q)
      (net_decider lists.net_policies direction q other) else base_decides pass decides) base-same

  pub pods_decide-same : decider lists direction (pod p) one ≡ decider lists direction (pod q) other
  pods_decide-same =
      ap (λ decides. admin_decides decides (lower_decider lists direction p one)) admin-same
      ∙ admin_decides-same (admin_decider lists.admin_policies direction q other) (lower_decider lists direction p one) (lower_decider lists direction q other) lower_decider-same
