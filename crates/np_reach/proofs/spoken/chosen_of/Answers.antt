use Rattle.std.proofs.Common.{◌&&◌, Bor, Bool, List, false, get_or, sym, subst, ap, ◌∙◌}
use Rattle.std.specs.List.{list_any}
use Rattle.std.proofs.lemmas.List.{get_or-map}
use Rattle.std.proofs.lemmas.List.Elements.{All-get_or, All-push}
use Rattle.np_base.proofs.Lists.{list_any-next}
use Rattle.np_reach.proofs.SpokenLemmas.{last_chosen, none_chosen}
use Rattle.np_reach.proofs.spoken.chosen_of.Goals as goal
use Rattle.np_reach.proofs.spoken.chosen_of.Goals.{else-own-place, else-own-place-via-else-own-place, else-own-place-via-then-own-place+else-selects, then-own-place+then-selects+in_ok-push}
use Rattle.np_reach.specs.Prelude.{AreWithin, Marks, speaks_at}
use Rattle.np_rules.specs.Prelude.{pod_end}

pub loop-place-preserved : goal.loop-place-preserved
loop-place-preserved g c =
    let one = c.index-policies-place.result in
    let near = pod_end c.args.near.now in
    let picked = g.P.Speaker.picks one.policy.now near in
    record {
      chosen = λ place.
          list_any-next (λ other. g.P.Speaker.picks other.policy.now near && speaks_at other.far.items place) c.args.policies.now c.loop-place.place one
          (list_any (λ (far : Bor (List Marks)). speaks_at far.now place) c.loop-place.made.items) _ c.loop-place-test.true c.index-policies-place.is (c.loop-place.invariant.chosen place)
          (elim c.if-own-place.branch [
            | then-own-place+then-selects+in_ok-push w ↦ rw w.made-is (rw (sym w.deref-far.ensures.value)
                (last_chosen (λ (far : Bor (List Marks)). speaks_at far.now place) c.loop-place.made.items _ _ picked w.in_ok-push.ensures.items (sym w.selects.ensures ∙ w.if-selects.true)))
            | else-own-place w ↦ rw w.made-is (none_chosen (list_any (λ (far : Bor (List Marks)). speaks_at far.now place) c.loop-place.made.items) picked (speaks_at one.far.items place)
                (elim w.else-own-place.branch [
                  | else-own-place-via-then-own-place+else-selects w' ↦ sym w'.selects.ensures ∙ w'.if-selects.false
                  | else-own-place-via-else-own-place w' ↦ g.P.Speaker.unpicked_elsewhere one.policy.now (pod_end c.args.other.now) near c.requires.alike
                      (ap (λ o. g.P.Speaker.may_pick o.policy.now (pod_end c.args.other.now)) c.index-policies-place.is
                      ∙ sym (get_or-map (λ o. g.P.Speaker.may_pick o.policy.now (pod_end c.args.other.now)) c.args.policies.now c.loop-place.place one false c.loop-place-test.true)
                      ∙ sym (ap (λ (all : List Bool). get_or all c.loop-place.place false) c.requires.own) ∙ w'.if-own-place.false)
                ]))
          ]);
      within = λ count are.
          elim c.if-own-place.branch [
            | then-own-place+then-selects+in_ok-push w ↦
                rw w.made-is (rw w.in_ok-push.ensures.items (All-push (λ (far : Bor (List Marks)). AreWithin count far.now) c.loop-place.made.items _ (c.loop-place.invariant.within count are)
                (rw w.deref-far.ensures.value (subst (λ o. AreWithin count o.far.items) (sym c.index-policies-place.is)
                (All-get_or (λ o. AreWithin count o.far.items) c.args.policies.now c.loop-place.place one c.loop-place-test.true are)))))
            | else-own-place w ↦ rw w.made-is (c.loop-place.invariant.within count are)
          ];
    }
