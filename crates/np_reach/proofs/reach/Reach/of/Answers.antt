use Rattle.std.proofs.Common.{◌≡◌, Bor, List, flat_map, map, arith, subst, sym, ap, ◌∙◌}
use Rattle.std.proofs.lemmas.List.{take_all}
use Rattle.std.proofs.lemmas.List.Elements.{All-get_or}
use Rattle.np_reach.specs.Prelude.{IsStretch, Pod, may_reach}
use Rattle.np_reach.proofs.MarkLemmas.{rows_more, seen_rows}
use Rattle.np_reach.proofs.reach.Reach.of.Goals as goal
use Rattle.np_rules.specs.Prelude.{pod, pod_end}

pub push_rows-requires-clause-sides : goal.push_rows-requires-clause-sides
push_rows-requires-clause-sides c =
    let pods = c.args.pods.now in
    let net_pods : flat_map (λ stretch. stretch.pods.now) c.deref.result.now ≡ pods = ap (flat_map (λ stretch. stretch.pods.now)) c.deref.ensures.value ∙ c.in_ok-stretches.ensures.pods in
    let admin_pods : flat_map (λ stretch. stretch.pods.now) c.deref-2.result.now ≡ pods = ap (flat_map (λ stretch. stretch.pods.now)) c.deref-2.ensures.value ∙ c.in_ok-stretches.ensures.pods in
    record {
      net_policies = ap (map (λ one. one.policy.now)) c.deref-3.ensures.value ∙ c.in_ok-net.ensures.policies ∙ c.net_policies.ensures.value;
      net = rw c.deref-3.ensures.value (rw net_pods at c.in_ok-net.ensures.far);
      admin_policies = ap (map (λ one. one.policy.now)) c.deref-4.ensures.value ∙ c.in_ok-admin.ensures.policies ∙ c.admin_policies.ensures.value;
      admin = rw c.deref-4.ensures.value (rw admin_pods at c.in_ok-admin.ensures.far);
    }

pub push_rows-requires-clause-alike : goal.push_rows-requires-clause-alike
push_rows-requires-clause-alike c = subst IsStretch (sym c.stretch-item.is)
    (All-get_or IsStretch c.deref-stretch-items.result.now c.loop-stretch.stretch-index c.stretch-item.result c.loop-stretch-test.true
    (rw c.deref-stretch-items.ensures.value c.in_ok-stretches.ensures.alike))

pub loop-stretch-preserved : goal.loop-stretch-preserved
loop-stretch-preserved c =
    rows_more (λ near. map (λ far. may_reach c.args.estate.now c.args.direction (pod_end near.now) (pod (pod_end far.now))) c.args.pods.now)
    (λ stretch. stretch.pods.now) c.deref-stretch-items.result.now c.loop-stretch.stretch-index c.stretch-item.result c.loop-stretch.rows c.push_rows.new.rows c.loop-stretch-test.true
    c.stretch-item.is c.in_ok-push_rows.ensures c.loop-stretch.invariant

pub returns : goal.returns
returns c =
    let row : Bor Pod → List _ = λ one. map (λ far. may_reach c.args.estate.now c.args.direction (pod_end one.now) (pod (pod_end far.now))) c.args.pods.now in
    c.loop-stretch.invariant
    ∙ ap (map row) (ap (flat_map (λ stretch. stretch.pods.now)) (take_all c.loop-stretch.stretch-index c.deref-stretch-items.result.now (omega arith) ∙ c.deref-stretch-items.ensures.value)
    ∙ c.in_ok-stretches.ensures.pods)
    ∙ seen_rows (λ near far. may_reach c.args.estate.now c.args.direction near (pod far)) (λ one. pod_end one.now) c.args.pods.now c.args.pods.now
