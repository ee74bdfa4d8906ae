use Rattle.std.proofs.Common.{◌≡◌, List, filter, map, refl, ap, ◌∙◌, subst}
use Rattle.np_rules.specs.Prelude.{AdminRule, Layer, ModelEnd, NetRule, PodEnd, PodSide, admin_rule_reaches, near_pod, net_rule_reaches, one_contact, pod, pod_at, pod_view, with_pod}
use Rattle.np_conns.specs.Prelude.{Conns}
use Rattle.np_rules.proofs.KeptLemmas.{walk_toward}
use Rattle.np_rules.proofs.OneEndLemmas.{same_contacts}
use Rattle.np_rules.proofs.pod_rules.PodRules.pod_set.Goals as goal

pub returns-clause-members : goal.returns-clause-members
returns-clause-members c = λ spot within.
    let side = c.args.self.now in
    let rules = c.in_ok-rules.rules in
    let layer : Layer Conns = record { admin = c.in_ok-admin_parts.field-0; isolated = rules.isolated; net = c.in_ok-net_union.field-0; base = c.in_ok-base_parts.field-0 } in
    let namespace = c.view_at-pod.result.namespace.now in
    let far_is : pod (pod_view c.view_at-2.result) ≡ pod (pod_at side.lists c.args.peer) = ap pod c.view_at-2.ensures ∙ ap (λ (s : PodSide). pod (pod_at s.lists c.args.peer)) c.self.view_is in
    let admin : List AdminRule = map (λ rule. rule.now) rules.admin.items in
    let net : List NetRule = map (λ rule. rule.now) rules.net.items in
    c.in_ok-set.ensures.members spot within
    ∙ walk_toward (one_contact c.between-ends.result) (pod (near_pod side)) (pod (pod_at side.lists c.args.peer)) c.args.family side admin rules.isolated net rules.base.now c.in_ok-admin.admin.items
    (λ rule. rule.now) c.in_ok-net.net.items (λ rule. rule.now) namespace layer
    (same_contacts _ c.self.inside.direction _ (pod (pod_at c.self.inside.estate.now c.self.inside.pod)) _ (pod (pod_at c.self.inside.estate.now c.args.peer)) c.args.family c.between-ends.ensures
    (ap pod c.view_at.ensures) (ap pod c.view_at-2.ensures) ∙ ap (with_pod c.args.peer c.args.family) c.self.view_is) c.in_ok-rules.ensures
    (subst (λ (far : ModelEnd). map (λ rule. rule.now) c.in_ok-admin.admin.items ≡ filter (admin_rule_reaches far c.args.family) admin) far_is (rw c.deref.ensures.value at c.in_ok-admin.ensures))
    (subst (λ (far : ModelEnd). map (λ rule. rule.now) c.in_ok-net.net.items ≡ filter (net_rule_reaches namespace far) net) far_is (rw c.deref-2.ensures.value at c.in_ok-net.ensures))
    (ap (λ (p : PodEnd). p.namespace) c.view_at-pod.ensures ∙ ap (λ (s : PodSide). (near_pod s).namespace) c.self.view_is) (rw c.deref-3.ensures.value at c.in_ok-admin_parts.ensures) refl
    (rw c.deref-4.ensures.value at c.in_ok-net_union.ensures) c.in_ok-base_parts.ensures spot within
