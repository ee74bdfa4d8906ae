-- What decides where the walk of a pod's side ends at a mark.
use Rattle.std.specs.Prelude.{◌≡◌, ℕ, ◌<◌, List, [], length, filter, Option, Some, None}
use Rattle.std.specs.List.{slice_get}
use Rattle.std.specs.Option.{option_map, option_map_or}
use Rattle.np_conns.specs.Prelude.{Conns}
use Rattle.np_explain.specs.Types.{Decider, Layer, LayerRules, Mark, Marked, NetPolicy, Part, RuleName}
use Rattle.np_rules.specs.Prelude.{NamesAdmin, NamesBase, NamesNet, Pairwise, PlacedAdminRule, PlacedBaseRule, PlacedNetRule, PodSide, admin_places, admin_rule_name, base_places, base_rule_name, is_allow, isolates, isolating_names, near_pod, net_places, net_policy_name, net_rule_name}
use Rattle.np_rules.specs.declared.decider.Decider.TheVariants as decider
use Rattle.np_tiers.specs.declared.mark.Mark.TheVariants as mark

-- ---- the rules of a side, place by place

abbrev pub admin_rules : PodSide → List PlacedAdminRule
admin_rules side = admin_places side.lists.admin_policies side.direction (near_pod side)

abbrev pub net_rules : PodSide → List PlacedNetRule
net_rules side = net_places side.lists.net_policies side.direction (near_pod side)

abbrev pub base_rules : PodSide → List PlacedBaseRule
base_rules side = base_places side.lists.baseline side.direction (near_pod side)

-- ---- marks

-- the admin rule at a place is there, where one was met
abbrev pub IsPassOf : PodSide → Option ℕ → Type 0
IsPassOf side None = Unit {0}
IsPassOf side (Some place) = place < length (admin_rules side)

-- the rules at the places of a mark are there
abbrev pub IsMarkOf : PodSide → Mark → Type 0
IsMarkOf side (mark.Admin place) = place < length (admin_rules side)
IsMarkOf side (mark.Net pass place) = IsPassOf side pass × (place < length (net_rules side))
IsMarkOf side (mark.Isolated pass) = IsPassOf side pass
IsMarkOf side (mark.Base pass place) = IsPassOf side pass × (place < length (base_rules side))
IsMarkOf side (mark.Free pass) = IsPassOf side pass

-- the name of the admin rule that was met, where one was
abbrev pub pass_name : PodSide → Option ℕ → Option RuleName
pass_name side None = None
pass_name side (Some place) = option_map admin_rule_name (slice_get (admin_rules side) place)

-- what decides; without a rule at the place it would be nothing
abbrev pub mark_decider : PodSide → Mark → Decider
mark_decider side (mark.Admin place) = option_map_or (λ placed. decider.Admin (admin_rule_name placed) (is_allow placed.rule.action)) (slice_get (admin_rules side) place) decider.NoSide
mark_decider side (mark.Net pass place) = option_map_or (λ placed. decider.Net (pass_name side pass) (net_rule_name placed)) (slice_get (net_rules side) place) decider.NoSide
mark_decider side (mark.Isolated pass) = decider.Isolated (pass_name side pass) (isolating_names side.lists.net_policies side.direction (near_pod side))
mark_decider side (mark.Base pass place) = option_map_or (λ placed. decider.Base (pass_name side pass) (base_rule_name placed) (is_allow placed.rule.action)) (slice_get (base_rules side) place) decider.NoSide
mark_decider side (mark.Free pass) = decider.Free (pass_name side pass)

-- a part of the carving, with what decides in place of its mark
abbrev pub named_part : PodSide → Marked Conns → Part
named_part side entry = record { decider = mark_decider side entry.mark; conns = entry.set }

-- the name of the NetworkPolicy at a place of the estate's list
abbrev pub policy_name_at : List NetPolicy → ℕ → List ℕ
policy_name_at policies place = option_map_or net_policy_name (slice_get policies place) []

-- ---- what is kept of a side

-- the parts of the layer say what the rules at their places say
pub record SaysActions {S : Type 0} (side : PodSide) (layer : Layer S) : Type 0 where
  pub admin : Pairwise (λ part placed. part.action ≡ placed.rule.action) layer.admin (admin_rules side)
  pub base : Pairwise (λ part placed. part.allow ≡ is_allow placed.rule.action) layer.base (base_rules side)

-- so they do, and the rules at the places are named
pub record KeepsNames {S : Type 0} (side : PodSide) (layer : Layer S) (rules : LayerRules) : Type 0 where
  pub says : SaysActions side layer
  pub admin : Pairwise (NamesAdmin side.lists.admin_policies) rules.admin (admin_rules side)
  pub net : Pairwise (NamesNet side.lists.net_policies) rules.net (net_rules side)
  pub isolating : Pairwise (λ place policy. slice_get side.lists.net_policies place ≡ Some policy) rules.isolating (filter (isolates side.direction (near_pod side)) side.lists.net_policies)
  pub base : Pairwise NamesBase rules.base (base_rules side)

-- so they are, and the names that are held are those of the NetworkPolicies that isolate the pod
pub record KeepsSide {S : Type 0} (side : PodSide) (layer : Layer S) (rules : LayerRules) (held : List (List ℕ)) : Type 0 where
  pub names : KeepsNames side layer rules
  pub isolating : held ≡ isolating_names side.lists.net_policies side.direction (near_pod side)
