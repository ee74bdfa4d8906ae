-- The tier of NetworkPolicies.
use Rattle.std.specs.Prelude.{List, Bool, ◌&&◌, is_some}
use Rattle.std.specs.List.{list_any}
use Rattle.np_rules.specs.Types.{Direction, NetPolicy}
use Rattle.np_rules.specs.model.Ends.{Contact, PodEnd}
use Rattle.np_rules.specs.model.Places.{PlacedNetRule, net_places, net_rules_of}
use Rattle.np_rules.specs.model.Rules.{net_rule_matches}
use Rattle.np_rules.specs.model.Selection.{net_selects}

-- A policy isolates the pods that it selects in the directions among its types.
abbrev pub isolates : Direction → PodEnd → NetPolicy → Bool
isolates direction p policy = net_selects policy p && is_some (net_rules_of direction policy)

-- whether some policy isolates the pod
abbrev pub is_isolated : List NetPolicy → Direction → PodEnd → Bool
is_isolated policies direction p = list_any (isolates direction p) policies

-- whether a rule matches, as one of its policy's namespace
abbrev pub placed_net_matches : Contact → PlacedNetRule → Bool
placed_net_matches contact placed = net_rule_matches placed.policy.namespace placed.rule contact

-- whether some rule of a policy that selects the pod matches
abbrev pub permits : List NetPolicy → Direction → PodEnd → Contact → Bool
permits policies direction p contact = list_any (placed_net_matches contact) (net_places policies direction p)
