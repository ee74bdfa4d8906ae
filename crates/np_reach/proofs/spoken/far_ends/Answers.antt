use Rattle.std.proofs.Common.{◌≡◌, ◌+◌, ◌++◌, Bor, List, Some, flat_map, slice_get, take, ap, subst, sym, ◌∙◌}
use Rattle.std.proofs.lemmas.List.Elements.{All-get_or}
use Rattle.std.proofs.lemmas.Option.{get_or_from_slice_get, slice_get-get_or, slice_get_within}
use Rattle.np_reach.specs.Prelude.{AreOfOneNamespace, IsStretch, Pod}
use Rattle.np_reach.proofs.SpokenLemmas.{marked_more, silent_more}
use Rattle.np_reach.proofs.spoken.far_ends.Goals as goal
use Rattle.np_reach.proofs.spoken.far_ends.Goals.{else-may_reach, then-may_reach+in_ok-pods+in_ok-push}
use Rattle.np_rules.proofs.PlacesLemmas.{flat_map-next}
use Rattle.np_rules.specs.Prelude.{pod, pod_end}

pub loop-stretch-preserved : goal.loop-stretch-preserved
loop-stretch-preserved g c =
    let i = c.loop-stretch.stretch-index in
    let stretch = c.stretch-item.result in
    let pods : List (Bor Pod) = stretch.pods.now in
    let front : List (Bor Pod) = flat_map (λ one. one.pods.now) (take i c.args.stretches.now) in
    let next : flat_map (λ one. one.pods.now) (take (i + 1) c.args.stretches.now) ≡ front ++ pods = flat_map-next
    (λ one. one.pods.now) c.args.stretches.now i stretch c.loop-stretch-test.true c.stretch-item.is in
    let at : slice_get c.args.stretches.now i ≡ Some stretch = slice_get-get_or c.args.stretches.now i stretch c.loop-stretch-test.true ∙ ap Some (sym c.stretch-item.is) in
    let alike : IsStretch stretch = subst IsStretch (sym c.stretch-item.is) (All-get_or IsStretch c.args.stretches.now i stretch c.loop-stretch-test.true c.requires.alike) in
    rw next (elim c.if-may_reach.branch [
      | then-may_reach+in_ok-pods+in_ok-push w ↦
          rw w.made-is (rw w.in_ok-push.ensures.items (marked_more (λ far. g.P.Speaker.speaks c.args.direction (pod (pod_end far.now)) c.args.policy.now) front pods c.loop-stretch.made.items
          c.loop-stretch.invariant stretch.from w.in_ok-pods.pods (c.requires.from i stretch at) w.in_ok-pods.ensures))
      | else-may_reach w ↦
          rw w.made-is (silent_more (λ far. g.P.Speaker.speaks c.args.direction (pod (pod_end far.now)) c.args.policy.now) front pods c.loop-stretch.made.items c.loop-stretch.invariant
          (λ k far far_at.
          let far_is : AreOfOneNamespace (pod_end stretch.one.now) (pod_end far.now) = subst (λ (x : Bor Pod). AreOfOneNamespace (pod_end stretch.one.now) (pod_end x.now))
          (get_or_from_slice_get pods k far far far_at) (All-get_or (λ x. AreOfOneNamespace (pod_end stretch.one.now) (pod_end x.now)) pods k far (slice_get_within pods k far far_at) alike) in
          g.P.Speaker.silent_elsewhere c.args.policy.now c.args.direction (pod_end stretch.one.now) (pod_end far.now) far_is (sym c.may_reach.ensures ∙ w.if-may_reach.false)))
    ])
