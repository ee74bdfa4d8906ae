use Rattle.std.proofs.Common.{List, refl, ap, subst, ◌∙◌, filter, arith}
use Rattle.std.proofs.lemmas.List.{take_all}
use Rattle.std.proofs.lemmas.Option.{slice_get_read}
use Rattle.np_rules.specs.Prelude.{IsPolicyAt, NetPolicy, Pairwise, isolates, net_rules_in, net_rules_of, net_selects, pod_view}
use Rattle.np_rules.proofs.OwnPolicies.{own-isolating}
use Rattle.np_rules.proofs.PolicyRulesLemmas.{free_is, isolating_is, kept_more, left_more}
use Rattle.np_rules.proofs.policy_rules.isolating_policies.Goals as goal
use Rattle.np_rules.proofs.policy_rules.isolating_policies.Goals.{in-Some+in_ok-push, in_default}

pub loop-among-preserved : goal.loop-among-preserved
loop-among-preserved c =
    let policies = c.args.policies.now in
    let own = c.own_policies-own.result in
    let p = pod_view c.args.pod.now in
    let policy = c.policy-item.result in
    elim c.match-isolating_rules.branch [
      | in-Some+in_ok-push w ↦
          let found = isolating_is (net_selects policy p) (net_rules_of c.args.direction policy) w.in-Some.rules.now w.in-Some.ensures in
          rw w.isolating-is (kept_more (IsPolicyAt policies (net_rules_in c.args.direction)) (isolates c.args.direction p) own.policies.now c.loop-among.among policy _ _ _
          c.loop-among-test.true c.policy-item.is found.0 w.in_ok-push.ensures.items
          (record {
            place = c.own_policies-own.ensures.first c.loop-among.among c.loop-among-test.true
                ∙ slice_get_read own.policies.now _ _ _ refl c.loop-among-test.true c.policy-item.is;
            rules = found.1;
          }) c.loop-among.invariant)
      | in_default w ↦ rw w.isolating-is (left_more (IsPolicyAt policies (net_rules_in c.args.direction)) (isolates c.args.direction p) own.policies.now c.loop-among.among policy _
          c.loop-among-test.true c.policy-item.is (free_is (net_selects policy p) (net_rules_of c.args.direction policy) w.in_default.ensures) c.loop-among.invariant)
    ]

pub returns : goal.returns
returns c =
    let p = pod_view c.args.pod.now in
    subst (λ (chosen : List NetPolicy). Pairwise (IsPolicyAt c.args.policies.now (net_rules_in c.args.direction)) c.loop-among.isolating.items chosen)
    (ap (filter (isolates c.args.direction p)) (take_all c.loop-among.among c.own_policies-own.result.policies.now (omega arith) ∙ c.own_policies-own.ensures.own)
    ∙ own-isolating c.args.direction p c.args.policies.now)
    c.loop-among.invariant
