-- What pods that have the same side share. For `SharedSide::pod_set`.
use Rattle.std.proofs.Common.{◌≡◌, ap, sym, subst, ◌∙◌}
use Rattle.np_kinds.specs.Prelude.{Answers, Conns, Direction, EstateLists, IsAlike, IsSetToward, PodQuestion, side_allows_pod}
use Rattle.np_rules.specs.Prelude.{PodSide, pod, pod_at, side_of}

-- what is allowed at a pod of the same side is allowed at the side's pod
pub from-alike : (side rules : PodSide) (lists : EstateLists) (asked : PodQuestion) (set : Conns) → rules ≡ side → lists ≡ side.lists → IsAlike rules asked.near → rules.direction ≡ asked.direction →
    Answers lists asked set → IsSetToward side asked.peer asked.family set
from-alike side rules lists asked set is same alike towards answers =
    let here : Answers rules.lists asked set = subst (λ (l : EstateLists). Answers l asked set) (same ∙ sym (ap (λ (s : PodSide). s.lists) is)) answers in
    subst (λ (s : PodSide). IsSetToward s asked.peer asked.family set) is (record {
      members = λ spot known.
          here.members spot known ∙ ap (λ (d : Direction). side_allows_pod (side_of rules.lists asked.near d) asked.peer asked.family spot) (sym towards)
          ∙ sym (alike.same (pod (pod_at rules.lists asked.peer)) asked.family spot);
      well = here.well;
    })

-- and the other way round
pub to-alike : (side rules : PodSide) (lists : EstateLists) (asked : PodQuestion) (set : Conns) → rules ≡ side → lists ≡ side.lists → IsAlike rules asked.near → rules.direction ≡ asked.direction →
    IsSetToward rules asked.peer asked.family set → Answers lists asked set
to-alike side rules lists asked set is same alike towards toward =
    subst (λ (l : EstateLists). Answers l asked set) (ap (λ (s : PodSide). s.lists) is ∙ sym same) (record {
      members = λ spot known.
          toward.members spot known ∙ alike.same (pod (pod_at rules.lists asked.peer)) asked.family spot
          ∙ ap (λ (d : Direction). side_allows_pod (side_of rules.lists asked.near d) asked.peer asked.family spot) towards;
      well = toward.well;
    })
