-- Kinds between which nothing may pass. For `KindReach::is_silent`, `KindReach::nothing` and 2 more.
use Rattle.std.proofs.Common.{◌≡◌, ℕ, zero, suc, List, [], Bool, true, false, ◌&&◌, Some, map, slice_get, slice_index, refl, sym, ap, ◌∙◌, ◌⊎◌, inl, inr}
use Rattle.std.specs.Option.{option_map}
use Rattle.std.proofs.lemmas.Bool.{and_left, and_right}
use Rattle.std.proofs.lemmas.Option.{slice_get-map}
use Rattle.np_kinds.specs.Prelude.{Direction, Egress, EstateLists, Family, Ingress, IsKindReach, IsReach, IsWorkload, KindReach, PortSpot, between_pods, first_end, is_alone, may_pass, pair_allows, side_allows_pod, source_pod}
use Rattle.np_model.specs.Prelude.{IsLawful}
use Rattle.np_fold.specs.Prelude.{Folding, folding_of}
use Rattle.np_reach.proofs.MarkLemmas.{may_at-of}
use Rattle.np_reach.proofs.ReachLemmas.{out_of_reach}
use Rattle.np_reach.specs.Prelude.{may_at, may_reach, reach_of}
use Rattle.np_rules.specs.Prelude.{PodEnd, allows, pod, side_of, with_pod}
use Rattle.np_kinds.proofs.KindNumbers.{first-of_kind, kinds-by}
use Rattle.np_kinds.proofs.PairLemmas.{pair_allows-alone, pair_allows-firsts}

-- what passes between two pods both of their sides allow
pub between-is : (lists : EstateLists) (source destination : ℕ) (family : Family) (spot : PortSpot) →
    between_pods lists source destination family spot ≡ (side_allows_pod (side_of lists source Egress) destination family spot && side_allows_pod
    (side_of lists destination Ingress) source family spot)
unfolding allows
between-is lists source destination family spot = refl

-- what the sides of kinds let through is right where it is what the sides of their first pods do
pub reach-right : (lists : EstateLists) (direction : Direction) (pods : List PodEnd) (reach : List (List Bool)) → pods ≡ map (first_end lists) (folding_of lists).first_of_kinds →
    reach ≡ reach_of lists direction pods → IsReach lists direction reach
unfolding IsReach
reach-right lists direction pods reach are is near far workload peer near_is far_is out contact far_end =
    let firsts = (folding_of lists).first_of_kinds in
    let at : (kind first : ℕ) → slice_get firsts kind ≡ Some first → slice_get pods kind ≡ Some (first_end lists first) = λ kind first found.
    ap (λ (ends : List PodEnd). slice_get ends kind) are ∙ slice_get-map (first_end lists) firsts kind ∙ ap (option_map (first_end lists)) found in
    let known : may_reach lists direction (first_end lists workload) (pod (first_end lists peer)) ≡ false =
    sym (may_at-of lists direction pods near far (first_end lists workload) (first_end lists peer) (at near workload near_is) (at far peer far_is)) ∙ ap
    (λ (rows : List (List Bool)). may_at rows near far) (sym is) ∙ out in
    out_of_reach lists direction (first_end lists workload) contact (ap (may_reach lists direction (first_end lists workload)) far_end ∙ known)

-- where nothing is known it is right
pub reach-nothing : (lists : EstateLists) (direction : Direction) → IsReach lists direction []
unfolding IsReach
reach-nothing lists direction zero far workload peer near_is far_is out contact far_end = absurd (cc)
reach-nothing lists direction (suc near) far workload peer near_is far_is out contact far_end = absurd (cc)

and_either : (a b : Bool) → (a && b) ≡ false → (a ≡ false) ⊎ (b ≡ false)
and_either true b is = inr is
and_either false b is = inl refl

-- nothing passes between the first pods of two kinds of which one does not let the other through
silent-between : (lists : EstateLists) (reach : KindReach) (near far a b : ℕ) (family : Family) (spot : PortSpot) → IsKindReach lists reach →
    slice_get (folding_of lists).first_of_kinds near ≡ Some a → slice_get (folding_of lists).first_of_kinds far ≡ Some b → may_pass reach near far ≡ false →
    between_pods lists (source_pod (folding_of lists) a) (source_pod (folding_of lists) b) family spot ≡ false
unfolding IsReach
silent-between lists reach near far a b family spot are near_is far_is out =
    let p = source_pod (folding_of lists) a in
    let q = source_pod (folding_of lists) b in
    between-is lists p q family spot
    ∙ elim (and_either (may_at reach.sent near far) (may_at reach.received far near) out) [
      | inl silent ↦ and_left (side_allows_pod (side_of lists p Egress) q family spot) (side_allows_pod (side_of lists q Ingress) p family spot)
          (are.sent near far a b near_is far_is silent (with_pod q family (side_of lists p Egress) spot) refl)
      | inr silent ↦ and_right (side_allows_pod (side_of lists p Egress) q family spot) (side_allows_pod (side_of lists q Ingress) p family spot)
          (are.received far near b a far_is near_is silent (with_pod p family (side_of lists q Ingress) spot) refl)
    ]

-- nothing passes between two workloads of these kinds
pub silent-pair : (lists : EstateLists) (folding : Folding) (reach : KindReach) (source destination near far : ℕ) (family : Family) (spot : PortSpot) → folding ≡ folding_of lists →
    IsKindReach lists reach → IsLawful lists → IsWorkload lists source → IsWorkload lists destination → near ≡ slice_index folding.kinds source → far ≡ slice_index folding.kinds destination →
    may_pass reach near far ≡ false → pair_allows lists (folding_of lists) source destination family spot ≡ false
silent-pair lists folding reach source destination near far family spot folded are lawful source_in destination_in near_is far_is out =
    go (is_alone (folding_of lists) source destination) refl
  where
    near_kind : near ≡ slice_index (folding_of lists).kinds source
    near_kind = near_is ∙ ap (λ (f : Folding). slice_index f.kinds source) folded

    far_kind : far ≡ slice_index (folding_of lists).kinds destination
    far_kind = far_is ∙ ap (λ (f : Folding). slice_index f.kinds destination) folded

    go : (b : Bool) → is_alone (folding_of lists) source destination ≡ b → pair_allows lists (folding_of lists) source destination family spot ≡ false
    go true alone = pair_allows-alone lists (folding_of lists) source destination family spot alone
    go false apart =
        let a = first-of_kind lists source source_in in
        let b = first-of_kind lists destination destination_in in
        let firsts = (folding_of lists).first_of_kinds in
        pair_allows-firsts lists source a.0 destination b.0 family spot lawful (kinds-by lists source source_in).0 a.1 (kinds-by lists destination destination_in).0 b.1 a.2 b.2 apart
        ∙ silent-between lists reach near far a.0 b.0 family spot are (ap (slice_get firsts) near_kind ∙ a.3) (ap (slice_get firsts) far_kind ∙ b.3) out
