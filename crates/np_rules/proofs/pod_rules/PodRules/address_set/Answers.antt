use Rattle.std.proofs.Common.{ℕ, List, map, refl, ap, ◌∙◌}
use Rattle.np_rules.specs.Prelude.{Beside, Layer, Piece, PodEnd, PodSide, address_contact, address_of, admin_rule_of_addresses, has_address_spot, is_address_spot, near_pod, net_rule_of_addresses, pod, pod_view, side_allows, with_addresses}
use Rattle.np_conns.specs.Prelude.{Conns}
use Rattle.np_rules.proofs.KeptLemmas.{admin_rule_nowhere, net_rule_nowhere, walk_of_kept}
use Rattle.np_rules.proofs.pod_rules.PodRules.address_set.Goals as goal

pub returns-clause-members : goal.returns-clause-members
returns-clause-members c = λ place within.
    let direction = c.self.inside.direction in
    let side = c.args.self.now in
    let rules = c.in_ok-rules.rules in
    let layer : Layer (Beside (List (Piece ℕ Conns)) (List (Piece ℕ Conns))) =
    record { admin = c.in_ok-admin_parts.field-0; isolated = rules.isolated; net = c.in_ok-net_union.field-0; base = c.in_ok-base_parts.field-0 } in
    c.in_ok-set.ensures.members place within
    ∙ walk_of_kept has_address_spot is_address_spot (address_contact direction (pod (pod_view c.view_at.result))) admin_rule_of_addresses net_rule_of_addresses side (map (λ rule. rule.now) rules.admin.items) rules.isolated
    (map (λ rule. rule.now) rules.net.items) rules.base.now c.in_ok-admin.admin.items (λ rule. rule.now) c.in_ok-net.net.items
    (λ rule. rule.now) c.view_at-near.result.namespace.now layer
    (λ spot. admin_rule_nowhere (address_contact direction (pod (pod_view c.view_at.result)) spot) (address_of spot) refl)
    (λ spot. net_rule_nowhere (near_pod side).namespace (address_contact direction (pod (pod_view c.view_at.result)) spot) (address_of spot) refl) c.in_ok-rules.ensures (rw c.deref.ensures.value at c.in_ok-admin.ensures) (rw c.deref-2.ensures.value at c.in_ok-net.ensures)
    (ap (λ (p : PodEnd). p.namespace) c.view_at-near.ensures ∙ ap (λ (s : PodSide). (near_pod s).namespace) c.self.view_is) (rw c.deref-3.ensures.value at c.in_ok-admin_parts.ensures) refl
    (rw c.deref-4.ensures.value at c.in_ok-net_union.ensures) c.in_ok-base_parts.ensures place within
    ∙ ap (λ (p : PodEnd). side_allows side.lists side.direction (near_pod side) (address_contact direction (pod p) place)) c.view_at.ensures
    ∙ ap (λ (s : PodSide). side_allows side.lists side.direction (near_pod side) (with_addresses s place)) c.self.view_is
