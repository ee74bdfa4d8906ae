use Rattle.std.proofs.Common.{ℕ, List, Option, is_some, refl, sym, ap, ◌∙◌, arith}
use Rattle.std.proofs.Math.Nat.{zero-add}
use Rattle.std.proofs.lemmas.List.FromFn.{map-range_with_len_more}
use Rattle.np_owners.specs.Prelude.{up}
use Rattle.np_owners.specs.MadePods as spec
use Rattle.np_owners.proofs.MakerLemmas.{marks_long, item_within, mark_at, makes_pod_at}
use Rattle.np_owners.proofs.makers.made_pods.Goals as goal

pub index-requires : goal.index-requires
index-requires c =
    let long = marks_long c.args.items.now c.in_ok-has_pods.has_pods.items (rw (c.requires, c.deref.ensures.value, c.in_ok-pod_marks.ensures) at c.in_ok-has_pods.ensures) in
    let within = item_within c.args.items.now c.args.chains.now _ c.loop-place.place c.len-place-end.ensures c.requires c.loop-place-test.true in
    omega (arith, within, c.in_ok-has_pods.has_pods.ok.0, long)

pub loop-place-preserved : goal.loop-place-preserved
loop-place-preserved c =
    let items = c.args.items.now in
    let place = c.loop-place.place in
    let marks = rw (c.requires, c.deref.ensures.value, c.in_ok-pod_marks.ensures) at c.in_ok-has_pods.ensures in
    let within = item_within items c.args.chains.now _ place c.len-place-end.ensures c.requires c.loop-place-test.true in
    let marked = c.index.ensures ∙ mark_at items place c.index-items-place.result within c.index-items-place.is _ _ marks in
    let owned = c.is_some-is_owned.ensures ∙ ap is_some (c.above.ensures ∙ ap (λ (chains : List (Option ℕ)). up chains place) c.requires) in
    let here = c.makes_pod.ensures ∙ makes_pod_at items place c.index-items-place.result within c.index-items-place.is _ _ owned marked in
    c.in_ok-push.ensures.items ∙ rw (c.loop-place.invariant, here) refl ∙ sym (map-range_with_len_more (spec.makes_pod items) 0 place place (zero-add place))
