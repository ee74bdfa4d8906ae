use Rattle.std.proofs.Common.{◌<◌, length, ap, ◌∙◌}
use Rattle.np_kinds.specs.Prelude.{EstateLists}
use Rattle.np_kinds.proofs.MemberLemmas.{pod-first}
use Rattle.np_kinds.proofs.first_pods.first_pod.Goals as goal

pub bounds-pods-place : goal.bounds-pods-place
bounds-pods-place c = rw (c.pods.ensures, c.estate.ensures.value) c.first_place-place.ensures.within

pub returns : goal.returns
returns c =
    let within : c.first_place-place.result < length c.pods.result.now = rw (c.pods.ensures, c.estate.ensures.value) c.first_place-place.ensures.within in
    pod-first c.pods.result.now c.args.folded.now.pods c.first_place-place.result _ c.index-pods-place.result (c.pods.ensures ∙ ap (λ (lists : EstateLists). lists.pods) c.estate.ensures.value)
    c.first_place-place.ensures.value within c.index-pods-place.is
