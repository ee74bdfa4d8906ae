use Rattle.std.proofs.Common.{refl, sym, ◌∙◌}
use Rattle.std.proofs.lemmas.Option.{slice_get_read}
use Rattle.np_rules.specs.Prelude.{IsPolicyAt, admin_rules_of, pod_view, subject_selects}
use Rattle.np_rules.proofs.PolicyRulesLemmas.{kept_more, left_more}
use Rattle.np_rules.proofs.policy_rules.selecting_policies.Goals as goal
use Rattle.np_rules.proofs.policy_rules.selecting_policies.Goals.{then-subject_selects+in_ok-push, else-subject_selects}

pub loop-place-preserved : goal.loop-place-preserved
loop-place-preserved c =
    let policies = c.args.policies.now in
    let policy = c.index-policies-place.result in
    elim c.if-subject_selects.branch [
      | then-subject_selects+in_ok-push w ↦ rw w.selecting-is (kept_more (IsPolicyAt policies (admin_rules_of c.args.direction)) (λ one. subject_selects one.subject (pod_view c.args.pod.now)) policies
          c.loop-place.place policy _ _ _ c.loop-place-test.true c.index-policies-place.is (sym c.subject_selects.ensures ∙ w.if-subject_selects.true) w.in_ok-push.ensures.items
          (record { place = slice_get_read policies _ _ _ refl c.loop-place-test.true c.index-policies-place.is; rules = w.admin_rules_of-rules.ensures }) c.loop-place.invariant)
      | else-subject_selects w ↦ rw w.selecting-is (left_more (IsPolicyAt policies (admin_rules_of c.args.direction)) (λ one. subject_selects one.subject (pod_view c.args.pod.now)) policies
          c.loop-place.place policy _ c.loop-place-test.true c.index-policies-place.is (sym c.subject_selects.ensures ∙ w.if-subject_selects.false) c.loop-place.invariant)
    ]
