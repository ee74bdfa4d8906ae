-- Which far ends the side of a pod may let through at all.
use Rattle.std.specs.Prelude.{ℕ, List, [], Bool, true, false, ◌&&◌, ◌||◌, not, map, option_and_then, slice_get, unwrap_or}
use Rattle.std.specs.List.{list_any}
use Rattle.np_reach.specs.Types.{AdminPolicy, AdminRule, Direction, EstateLists, Four, NetPolicy, Six}
use Rattle.np_rules.specs.Prelude.{ModelEnd, PodEnd, admin_peer_matches, admin_rules_of, is_isolated, net_peer_matches, net_rules_of, net_selects, none_or_any, pod, subject_selects}
use Rattle.np_rules.specs.model.Sides.{is_allow}

-- whether some rule of a NetworkPolicy speaks of a far end, whatever the port is
abbrev pub net_reaches : Direction → ModelEnd → NetPolicy → Bool
net_reaches direction far policy =
    list_any (λ rule. none_or_any (λ peer. net_peer_matches policy.namespace peer far) rule.peers) (unwrap_or (net_rules_of direction policy) [])

-- whether an admin rule allows, and speaks of a far end in packets of some family
abbrev pub admin_rule_reaches : ModelEnd → AdminRule → Bool
admin_rule_reaches far rule =
    is_allow rule.action
    && (list_any (λ peer. admin_peer_matches peer far Four) rule.peers || list_any (λ peer. admin_peer_matches peer far Six) rule.peers)

abbrev pub admin_reaches : Direction → ModelEnd → AdminPolicy → Bool
admin_reaches direction far policy = list_any (admin_rule_reaches far) (admin_rules_of direction policy)

-- The side of a pod may let a far end through where no NetworkPolicy isolates the pod, or where a policy that selects
-- it has a rule that allows and speaks of the far end.
unfoldable pub may_reach : EstateLists → Direction → PodEnd → ModelEnd → Bool
may_reach lists direction near far =
    not (is_isolated lists.net_policies direction near)
    || (list_any (λ policy. net_selects policy near && net_reaches direction far policy) lists.net_policies
    || list_any (λ policy. subject_selects policy.subject near && admin_reaches direction far policy) lists.admin_policies)

-- for each of some pods whether its side may let each of them through
abbrev pub reach_of : EstateLists → Direction → List PodEnd → List (List Bool)
reach_of lists direction pods = map (λ near. map (λ far. may_reach lists direction near (pod far)) pods) pods

-- what is known of two places; what is not known may be
abbrev pub may_at : List (List Bool) → ℕ → ℕ → Bool
may_at rows near far = unwrap_or (option_and_then (λ row. slice_get row far) (slice_get rows near)) true

-- whether a place is marked
abbrev pub has_place : List Bool → ℕ → Bool
has_place marks place = unwrap_or (slice_get marks place) false
