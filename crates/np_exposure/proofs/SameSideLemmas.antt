-- Sides that are the same mention the same requirements, and have one list of rows. For `is_same_side` and crates above.
use Rattle.std.proofs.Common.{◌≡◌, ℕ, List, [], ◌∷◌, refl, ap, ◌∙◌}
use Rattle.np_conns.proofs.ConnLemmas.{conns_of-agrees}
use Rattle.np_exposure.specs.Prelude.{Direction, ExposureRow, Four, PortSpot, SidedRequirement, Stranger, bare_row, can_be_assumed, choices_left, each_once, exposes, first_stranger, mentions, negated, rows_at, rows_left, rows_of}
use Rattle.np_model.specs.declared.lists.EstateLists.{EstateLists}
use Rattle.np_rules.proofs.SameSideLemmas.{selected, side-same}
use Rattle.np_rules.proofs.SameVerdicts.{SamePlaces, same_places}
use Rattle.np_rules.specs.Prelude.{IsSameSide, PodSide, pod, pod_at, side_of, stranger_end}

-- ---- sides that mention the same and expose alike

module _ (a b : PodSide) (same : mentions a ≡ mentions b) (alike : (s : Stranger) (spot : PortSpot) → exposes a s spot ≡ exposes b s spot) where
  row-same : (s : Stranger) → bare_row a s ≡ bare_row b s
  row-same s = ap (λ conns. record { requirements = []; conns = conns }) (conns_of-agrees (exposes a s) (exposes b s) (λ spot inside. alike s spot))

  left-same : (left assumed : List SidedRequirement) → rows_left a left assumed ≡ rows_left b left assumed
  unfolding rows_left
  left-same [] assumed =
      ap (λ (row : ExposureRow). row ∷ []) (ap (λ (all : List SidedRequirement). bare_row a (first_stranger (choices_left all assumed))) same ∙ row-same
      (first_stranger (choices_left (mentions b) assumed)))
  left-same (asked ∷ left) assumed =
      ap (λ (all : List SidedRequirement). rows_at asked (can_be_assumed all (asked ∷ assumed)) (can_be_assumed all (negated asked ∷ assumed)) (rows_left a left (asked ∷ assumed))
      (rows_left a left (negated asked ∷ assumed))) same
      ∙ ap (λ (met : List ExposureRow). rows_at asked (can_be_assumed (mentions b) (asked ∷ assumed)) (can_be_assumed (mentions b) (negated asked ∷ assumed)) met
      (rows_left a left (negated asked ∷ assumed))) (left-same left (asked ∷ assumed))
      ∙ ap (λ (unmet : List ExposureRow). rows_at asked (can_be_assumed (mentions b) (asked ∷ assumed)) (can_be_assumed (mentions b) (negated asked ∷ assumed))
      (rows_left b left (asked ∷ assumed)) unmet) (left-same left (negated asked ∷ assumed))

  pub rows-same : rows_of a ≡ rows_of b
  rows-same = left-same (each_once (mentions a)) [] ∙ ap (λ (all : List SidedRequirement). rows_left b (each_once all) []) same

-- ---- the sides of two pods

module _ (lists : EstateLists) (direction : Direction) (place other : ℕ) (same : IsSameSide lists direction (pod_at lists place) (pod_at lists other)) where
  places : SamePlaces lists direction (pod_at lists place) (pod_at lists other)
  places = same_places lists direction (pod_at lists place) (pod_at lists other) (selected lists direction (pod_at lists place) (pod_at lists other) same)

  pub mentions-same : mentions (side_of lists place direction) ≡ mentions (side_of lists other direction)
  unfolding mentions
  mentions-same = rw (places.admin, places.net, places.base) refl

  pub rows-one : rows_of (side_of lists place direction) ≡ rows_of (side_of lists other direction)
  rows-one = rows-same (side_of lists place direction) (side_of lists other direction) mentions-same
      (λ s spot. side-same lists direction (pod_at lists place) (pod_at lists other) same (pod (stranger_end s)) Four spot)
