-- Rules of NetworkPolicies, policy by policy. For `permits` and crates above.
use Rattle.std.proofs.Common.{◌≡◌, ℕ, ◌+◌, ◌<◌, List, [], Bool, ◌||◌, length, take, get_or, refl, sym, ap, ◌∙◌, unwrap_or, if◌then◌else◌}
use Rattle.std.specs.List.{list_any}
use Rattle.np_rules.specs.Prelude.{Contact, Direction, NetPolicy, PlacedNetRule, PodEnd, net_places_of, net_rule_matches, net_rules_of, net_selects, permits, placed_net_matches}
use Rattle.np_rules.proofs.PlacesLemmas.{if_both, list_any-next, list_any-numbered}

-- the rules of a policy, where it selects the pod
abbrev pub places_by : Direction → PodEnd → NetPolicy → List PlacedNetRule
places_by direction p policy = if net_selects policy p then net_places_of direction policy else []

-- whether some rule of one policy more matches
pub permits-next : (policies : List NetPolicy) (direction : Direction) (p : PodEnd) (contact : Contact) (i : ℕ) (policy : NetPolicy) (permitted here made : Bool) → i < length policies →
    policy ≡ get_or policies i policy → permitted ≡ permits (take i policies) direction p contact →
    here ≡ list_any (λ rule. net_rule_matches policy.namespace rule contact) (if net_selects policy p then unwrap_or (net_rules_of direction policy) [] else []) → made ≡ (permitted || here) →
    made ≡ permits (take (i + 1) policies) direction p contact
permits-next policies direction p contact i policy permitted here made within is so_far is_here joined =
    let found : list_any (placed_net_matches contact) (places_by direction p policy) ≡ here = if_both
    (λ xs ys. list_any (placed_net_matches contact) xs ≡ list_any (λ rule. net_rule_matches policy.namespace rule contact) ys) (net_selects policy p) (net_places_of direction policy)
    (unwrap_or (net_rules_of direction policy) []) (list_any-numbered (λ numbered. record { policy = policy; place = numbered.0; rule = numbered.1 })
    (λ rule. net_rule_matches policy.namespace rule contact) (placed_net_matches contact) (λ numbered. refl) 0 (unwrap_or (net_rules_of direction policy) [])) refl ∙ sym is_here in
    sym (list_any-next (placed_net_matches contact) (places_by direction p) policies i policy within is
    ∙ ap (λ b. b || list_any (placed_net_matches contact) (places_by direction p policy)) (sym so_far)
    ∙ ap (λ b. permitted || b) found
    ∙ sym joined)
