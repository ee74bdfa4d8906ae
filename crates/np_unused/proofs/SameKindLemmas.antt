-- What the side of a kind tells of a kind that has the same side. For `is_same_before` and `search_near`.
use Rattle.std.proofs.Common.{◌≡◌, ◌≢◌, ℕ, ◌<◌, List, Bool, true, ◌||◌, not, length, slice_get, Some, None, sym, ap, subst, inl, inr, arith}
use Rattle.std.specs.List.{Contains}
use Rattle.std.proofs.lemmas.Bool.{ne_eqb}
use Rattle.std.proofs.lemmas.Bool.Decides.{eqb_tells}
use Rattle.std.proofs.lemmas.Option.{slice_get_within}
use Rattle.np_unused.proofs.StepLemmas.{kind_at, kind_is, pod_of_kind}
use Rattle.np_unused.specs.Prelude.{AllEnds, Decider, Direction, EstateLists, Family, IsLeft, IsSameBefore, IsWithin, KindPod, Knows, KnowsAll, KnowsBefore, KnowsFar, KnowsKind, KnowsLeftOf, KnowsPods, Left, OneKind, UsedRules, is_asked}
use Rattle.np_conns.specs.Prelude.{is_spot}
use Rattle.np_model.specs.Prelude.{families_of}
use Rattle.np_rules.specs.Prelude.{DecideTheSame, address, address_of, is_address_spot, pod, pod_at, side_of, spot_of, with_addresses, with_pod}
use Rattle.np_addr.specs.Prelude.{family_of}

-- a kind whose pod has the same side stands before another one
pub same_before : (lists : EstateLists) (direction : Direction) (kinds : List KindPod) (near first : ℕ) → first < near →
    DecideTheSame lists direction (pod_at lists (pod_of_kind kinds near).pod) (pod_at lists (pod_of_kind kinds first).pod) → IsSameBefore lists direction kinds near first
same_before lists direction kinds near first before same = record {
  before = before;
  same = λ one other at there.
      subst (λ (k : KindPod). DecideTheSame lists direction (pod_at lists k.pod) (pod_at lists other.pod)) (kind_is kinds near one at)
      (subst (λ (k : KindPod). DecideTheSame lists direction (pod_at lists (pod_of_kind kinds near).pod) (pod_at lists k.pod)) (kind_is kinds first other there) same);
}

-- another kind is asked for
asked_apart : (near kind : ℕ) (far : KindPod) → kind ≢ near → is_asked near kind far ≡ true
asked_apart near kind far differ = ap (λ (same : Bool). not same || far.is_shared) (ne_eqb kind near differ)

module _ (lists : EstateLists) (direction : Direction) (kinds : List KindPod) (near : ℕ) (used : UsedRules) where
  module _ (first : ℕ) (same : IsSameBefore lists direction kinds near first) (known : KnowsKind lists direction kinds first used) (one : KindPod) (at : slice_get kinds near ≡ Some one) where
    first_at : slice_get kinds first ≡ Some (pod_of_kind kinds first)
    first_at = kind_at kinds first (omega (arith, same.before, slice_get_within kinds near one at))

    -- the side of the first tells of all addresses
    same_addresses : KnowsAll is_address_spot (side_of lists one.pod direction) with_addresses used
    same_addresses place inside =
        subst (λ (d : Decider). Knows lists direction used d)
        (sym (same.same one (pod_of_kind kinds first) at first_at (address (address_of place)) (family_of (address_of place)) (spot_of place)))
        ((known (pod_of_kind kinds first) first_at).addresses place inside)

    -- and of all kinds but itself
    same_far : (family : Family) → Contains (families_of lists.pods) family → (kind : ℕ) → kind ≢ first → (far : KindPod) → slice_get kinds kind ≡ Some far →
        KnowsAll is_spot (side_of lists one.pod direction) (with_pod far.pod family) used
    unfolding KnowsPods
    same_far family of_family kind differ far far_at spot inside =
        subst (λ (d : Decider). Knows lists direction used d) (sym (same.same one (pod_of_kind kinds first) at first_at (pod (pod_at lists far.pod)) family spot))
        ((known (pod_of_kind kinds first) first_at).pods family of_family kind far far_at (asked_apart first kind far differ) spot inside)

  -- so that all is known where that one is known, too
  known_but : (first : ℕ) → IsSameBefore lists direction kinds near first → KnowsKind lists direction kinds first used → KnowsLeftOf lists direction kinds near (OneKind first) used →
      KnowsKind lists direction kinds near used
  unfolding KnowsPods
  known_but first same known toward one at = record {
    addresses = same_addresses first same known one at;
    pods = λ family of_family kind far far_at asked spot inside. elim (eqb_tells kind first) [
      | inl equal ↦ subst (λ (k : ℕ). KnowsFar (side_of lists one.pod direction) kinds near family k used) (sym equal.1) (toward one at family of_family) far far_at asked spot inside
      | inr other ↦ same_far first same known one at family of_family kind other.1 far far_at spot inside
    ];
  }

  -- where one kind was left, it is a kind
  pub left_within : (left : Left) → IsLeft lists direction kinds near (Some left) → near < length kinds → IsWithin (length kinds) left
  left_within AllEnds is low = tt
  left_within (OneKind first) same low = omega (arith, same.before, low)

  -- after what was left is known, all is
  pub left_known : (left : Left) → IsLeft lists direction kinds near (Some left) → KnowsBefore lists direction kinds near used → KnowsLeftOf lists direction kinds near left used →
      KnowsKind lists direction kinds near used
  left_known AllEnds is before known = known
  left_known (OneKind first) same before known = known_but first same (before first same.before) known

  -- where nothing was left, all is known
  pub none_left_known : IsLeft lists direction kinds near None → KnowsBefore lists direction kinds near used → KnowsKind lists direction kinds near used
  none_left_known two before =
      let same = two.3 in
      let other = two.4 in
      known_but two.0 same (before two.0 same.before)
      (λ one at family of_family far far_at asked. same_far two.1 other (before two.1 other.before) one at family of_family two.0 two.2 far far_at)
