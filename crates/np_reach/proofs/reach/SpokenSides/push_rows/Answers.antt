use Rattle.std.proofs.Common.{Bor, length, map, refl, subst, sym, ap, ◌∙◌}
use Rattle.std.proofs.lemmas.List.Elements.{All-get_or}
use Rattle.np_reach.specs.Prelude.{AreOfOneNamespace, Pod, admin_reaches, may_reach, net_reaches}
use Rattle.np_reach.proofs.MarkLemmas.{item_behind, marked_by, row_right}
use Rattle.np_reach.proofs.SpokenLemmas.{all_within}
use Rattle.np_reach.proofs.reach.SpokenSides.push_rows.Goals as goal
use Rattle.np_rules.specs.Prelude.{is_isolated, net_selects, pod, pod_end, subject_selects}

pub chosen_of-requires-clause-alike : goal.chosen_of-requires-clause-alike
chosen_of-requires-clause-alike c =
    subst (λ (far : Bor Pod). AreOfOneNamespace (pod_end c.args.stretch.now.one.now) (pod_end far.now)) (sym c.near-item.is)
    (All-get_or (λ far. AreOfOneNamespace (pod_end c.args.stretch.now.one.now) (pod_end far.now)) c.args.stretch.now.pods.now c.loop-near.near-index c.near-item.result c.loop-near-test.true
    c.requires.alike)

pub row_of-requires-clause-net : goal.row_of-requires-clause-net
row_of-requires-clause-net c =
    rw c.deref.ensures.value (c.in_ok-by_net.ensures.within (length c.args.self.now.pods.now)
    (all_within (λ one. one.far.items) (λ one far. net_reaches c.args.self.now.direction (pod (pod_end far.now)) one.policy.now) c.args.self.now.pods.now c.args.self.now.pods.now
    c.args.self.now.net.now refl c.requires.sides.net))

pub row_of-requires-clause-admin : goal.row_of-requires-clause-admin
row_of-requires-clause-admin c =
    rw c.deref-in-loop-near.ensures.value (c.in_ok-by_admin.ensures.within (length c.args.self.now.pods.now)
    (all_within (λ one. one.far.items) (λ one far. admin_reaches c.args.self.now.direction (pod (pod_end far.now)) one.policy.now) c.args.self.now.pods.now c.args.self.now.pods.now
    c.args.self.now.admin.now refl c.requires.sides.admin))

pub loop-near-preserved : goal.loop-near-preserved
loop-near-preserved c =
    let lists = c.args.self.now.estate.now in
    let direction = c.args.self.now.direction in
    let pods = c.args.self.now.pods.now in
    let near = pod_end c.near-item.result.now in
    item_behind (λ one. map (λ far. may_reach lists direction (pod_end one.now) (pod (pod_end far.now))) pods) c.args.stretch.now.pods.now c.loop-near.near-index c.near-item.result c.args.rows.now
    c.loop-near.rows c.push.new.self _ c.loop-near-test.true c.near-item.is c.in_ok-push.ensures.ok c.loop-near.invariant
    (c.in_ok-row_of.ensures
    ∙ row_right lists direction near (λ far. pod_end far.now) pods c.isolates_pod-isolated.result (λ far. far.now) (λ far. far.now) c.deref.result.now c.deref-in-loop-near.result.now
    (c.isolates_pod-isolated.ensures ∙ ap (λ policies. is_isolated policies direction near) c.net_policies.ensures.value)
    (λ place x at.
    rw c.deref.ensures.value (c.in_ok-by_net.ensures.chosen place)
    ∙ marked_by (λ one. one.policy.now) (λ one. one.far.items) (λ policy. net_selects policy near)
    (λ policy far. net_reaches direction (pod (pod_end far.now)) policy) lists.net_policies pods place x c.args.self.now.net.now c.requires.sides.net_policies c.requires.sides.net at)
    (λ place x at.
    rw c.deref-in-loop-near.ensures.value (c.in_ok-by_admin.ensures.chosen place)
    ∙ marked_by (λ one. one.policy.now) (λ one. one.far.items) (λ policy. subject_selects policy.subject near)
    (λ policy far. admin_reaches direction (pod (pod_end far.now)) policy) lists.admin_policies pods place x c.args.self.now.admin.now c.requires.sides.admin_policies c.requires.sides.admin at))
