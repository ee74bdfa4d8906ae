-- Used rules stand in what decides a packet between listed ends. For AllowLemmas, FindLemmas and LawLemmas.
use Rattle.std.proofs.Common.{◌≡◌, ℕ, ◌<◌, ◌^◌, List, ◌++◌, Bool, true, false, ◌==◌, not, map, length, All, refl, ap, ◌∙◌, arith}
use Rattle.std.specs.List.{Contains, list_any, range_with_len}
use Rattle.std.proofs.lemmas.Bool.{and_from, and_parts, false≢true, not-true, not_from_false}
use Rattle.std.proofs.lemmas.Bool.Decides.{nat_tests}
use Rattle.std.proofs.lemmas.List.Elements.{All-append, All-contains, Contains-append_left, Contains-append_right}
use Rattle.std.proofs.lemmas.List.Folds.{Any-from_list_any, list_any_at}
use Rattle.std.proofs.lemmas.List.FromFn.{get_or-map-range_with_len, length-map-range_with_len}
use Rattle.np_unused.specs.Prelude.{At, Direction, Egress, End, EstateLists, Family, Four, Ingress, IsListedEnd, IsListedPacket, NoSide, Pod, PortSpot, RuleRef, Six, Tier, four_ends, is_used, is_used_between, is_used_in, listed_ends, pod_ends, ref_of, six_ends, stands_in}
use Rattle.np_conns.specs.Prelude.{is_spot}
use Rattle.np_explain.proofs.SpotLemmas.{all_spots-are_spots, all_spots-has}
use Rattle.np_explain.specs.Prelude.{all_spots, are_one_pod, decider_between, decider_near, packet_families}
use Rattle.np_unused.specs.declared.rule_ref.Tier.TheVariants as tier

-- ---- tests of lists

pub any_of : {X : Type 0} (p : X → Bool) (xs : List X) (x : X) → Contains xs x → p x ≡ true → list_any p xs ≡ true
any_of p xs x has passes = list_any_at p xs has.0 x has.1 (ap p has.2 ∙ passes)

pub any_gives : {X : Type 0} (p : X → Bool) (xs : List X) → list_any p xs ≡ true → (x : X) × Contains xs x × (p x ≡ true)
any_gives p xs any = let found = Any-from_list_any p xs any in (found.1, (found.0, found.2, found.3), found.4)

-- ---- listed ends

numbered_all : (P : End → Type 0) (f : ℕ → End) (count : ℕ) → ((n : ℕ) → n < count → P (f n)) → All P (map f (range_with_len 0 count))
numbered_all P f count each k d within =
    let below : k < count = omega (arith, length-map-range_with_len f 0 count) in
    rw (get_or-map-range_with_len f 0 count k k d below (omega arith)) (each k below)

numbered_has : (f : ℕ → End) (count n : ℕ) → n < count → Contains (map f (range_with_len 0 count)) (f n)
numbered_has f count n below = (n, omega (arith, length-map-range_with_len f 0 count), get_or-map-range_with_len f 0 count n n (f n) below (omega arith))

module _ (lists : EstateLists) where
  pods_listed : All (IsListedEnd lists) (pod_ends (length lists.pods))
  unfolding pod_ends
  pods_listed = numbered_all (IsListedEnd lists) Pod (length lists.pods) (λ n below. below)

  fours_listed : All (IsListedEnd lists) (four_ends (2 ^ 32))
  unfolding four_ends
  fours_listed = numbered_all (IsListedEnd lists) (λ n. At (Four n)) (2 ^ 32) (λ n below. below)

  sixes_listed : All (IsListedEnd lists) (six_ends (2 ^ 128))
  unfolding six_ends
  sixes_listed = numbered_all (IsListedEnd lists) (λ n. At (Six n)) (2 ^ 128) (λ n below. below)

  ends_are_listed : (end : End) → Contains (listed_ends lists) end → IsListedEnd lists end
  unfolding listed_ends
  ends_are_listed end has =
      All-contains (IsListedEnd lists) (pod_ends (length lists.pods) ++ four_ends (2 ^ 32) ++ six_ends (2 ^ 128)) end
      (All-append (IsListedEnd lists) (pod_ends (length lists.pods) ++ four_ends (2 ^ 32)) (six_ends (2 ^ 128))
      (All-append (IsListedEnd lists) (pod_ends (length lists.pods)) (four_ends (2 ^ 32)) pods_listed fours_listed) sixes_listed)
      has

  has_pod : (p : ℕ) → p < length lists.pods → Contains (pod_ends (length lists.pods)) (Pod p)
  unfolding pod_ends
  has_pod p below = numbered_has Pod (length lists.pods) p below

  has_four : (n : ℕ) → n < 2 ^ 32 → Contains (four_ends (2 ^ 32)) (At (Four n))
  unfolding four_ends
  has_four n below = numbered_has (λ m. At (Four m)) (2 ^ 32) n below

  has_six : (n : ℕ) → n < 2 ^ 128 → Contains (six_ends (2 ^ 128)) (At (Six n))
  unfolding six_ends
  has_six n below = numbered_has (λ m. At (Six m)) (2 ^ 128) n below

  listed_is_end : (end : End) → IsListedEnd lists end → Contains (listed_ends lists) end
  unfolding listed_ends
  listed_is_end (Pod p) below = Contains-append_left (pod_ends (length lists.pods) ++ four_ends (2 ^ 32)) (six_ends (2 ^ 128)) (Pod p)
      (Contains-append_left (pod_ends (length lists.pods)) (four_ends (2 ^ 32)) (Pod p) (has_pod p below))
  listed_is_end (At (Four n)) below = Contains-append_left (pod_ends (length lists.pods) ++ four_ends (2 ^ 32)) (six_ends (2 ^ 128)) (At (Four n))
      (Contains-append_right (pod_ends (length lists.pods)) (four_ends (2 ^ 32)) (At (Four n)) (has_four n below))
  listed_is_end (At (Six n)) below = Contains-append_right (pod_ends (length lists.pods) ++ four_ends (2 ^ 32)) (six_ends (2 ^ 128)) (At (Six n)) (has_six n below)

-- ---- used rules

-- a packet between listed ends in whose decider a rule stands
pub record UsedBy (lists : EstateLists) (rule : RuleRef) : Type 0 where
  pub from : End
  pub to : End
  pub family : Family
  pub spot : PortSpot
  pub listed : IsListedPacket lists from to family spot
  pub stands : stands_in lists rule (decider_between lists rule.direction from to family spot) ≡ true

pub used_by : (lists : EstateLists) (rule : RuleRef) → is_used lists rule ≡ true → UsedBy lists rule
unfolding is_used
used_by lists rule used =
    let ends = listed_ends lists in
    let s = any_gives (λ source. list_any (is_used_between lists rule source) ends) ends used in
    let d = any_gives (is_used_between lists rule s.0) ends s.2 in
    let parts = and_parts (not (are_one_pod s.0 d.0)) (list_any (is_used_in lists rule s.0 d.0) (packet_families lists s.0 d.0)) d.2 in
    let f = any_gives (is_used_in lists rule s.0 d.0) (packet_families lists s.0 d.0) parts.1 in
    let at = any_gives (λ spot. stands_in lists rule (decider_between lists rule.direction s.0 d.0 f.0 spot)) all_spots f.2 in
    record {
      from = s.0;
      to = d.0;
      family = f.0;
      spot = at.0;
      listed = record { source = ends_are_listed lists s.0 s.1; destination = ends_are_listed lists d.0 d.1; apart = not-true _ parts.0; of_family = f.1; at_spot = all_spots-are_spots at.0 at.1 };
      stands = at.2;
    }

pub is_used_by : (lists : EstateLists) (rule : RuleRef) (source destination : End) (family : Family) (spot : PortSpot) → IsListedPacket lists source destination family spot →
    stands_in lists rule (decider_between lists rule.direction source destination family spot) ≡ true → is_used lists rule ≡ true
unfolding is_used
is_used_by lists rule source destination family spot listed stands =
    let ends = listed_ends lists in
    any_of (λ s. list_any (is_used_between lists rule s) ends) ends source (listed_is_end lists source listed.source)
    (any_of (is_used_between lists rule source) ends destination (listed_is_end lists destination listed.destination)
    (and_from (not (are_one_pod source destination)) _ (not_from_false (are_one_pod source destination) listed.apart)
    (any_of (is_used_in lists rule source destination) (packet_families lists source destination) family listed.of_family
    (any_of (λ at. stands_in lists rule (decider_between lists rule.direction source destination family at)) all_spots spot (all_spots-has spot listed.at_spot) stands))))

-- ---- by the near end

eqb_flips : (m n : ℕ) → m == n ≡ false → n == m ≡ false
eqb_flips m n differ = grind (arith, nat_tests)

one_pod_flips : (near far : End) → are_one_pod near far ≡ false → are_one_pod far near ≡ false
one_pod_flips (Pod p) (Pod q) apart = eqb_flips p q apart
one_pod_flips (Pod p) (At a) apart = refl
one_pod_flips (At a) (Pod q) apart = refl
one_pod_flips (At a) (At b) apart = refl

families_flip : (lists : EstateLists) (p : ℕ) (far : End) (family : Family) → Contains (packet_families lists (Pod p) far) family → Contains (packet_families lists far (Pod p)) family
families_flip lists p (Pod q) family has = has
families_flip lists p (At a) family has = has

families_back : (lists : EstateLists) (p : ℕ) (far : End) (family : Family) → Contains (packet_families lists far (Pod p)) family → Contains (packet_families lists (Pod p) far) family
families_back lists p (Pod q) family has = has
families_back lists p (At a) family has = has

-- what decides at a pod, in packets with a listed far end, is used
pub used_near : (lists : EstateLists) (direction : Direction) (one : Tier) (policy place p : ℕ) (far : End) (family : Family) (spot : PortSpot) → p < length lists.pods → IsListedEnd lists far →
    are_one_pod (Pod p) far ≡ false → Contains (packet_families lists (Pod p) far) family → is_spot spot ≡ true →
    stands_in lists (ref_of direction one policy place) (decider_near lists direction (Pod p) far family spot) ≡ true → is_used lists (ref_of direction one policy place) ≡ true
used_near lists Egress one policy place p far family spot near_in far_in apart of_family at stands =
    is_used_by lists (ref_of Egress one policy place) (Pod p) far family spot (record { source = near_in; destination = far_in; apart = apart; of_family = of_family; at_spot = at }) stands
used_near lists Ingress one policy place p far family spot near_in far_in apart of_family at stands =
    is_used_by lists (ref_of Ingress one policy place) far (Pod p) family spot
    (record { source = far_in; destination = near_in; apart = one_pod_flips (Pod p) far apart; of_family = families_flip lists p far family of_family; at_spot = at }) stands

-- a used rule stands in what decides at a pod
pub record UsedNear (lists : EstateLists) (direction : Direction) (one : Tier) (policy place : ℕ) : Type 0 where
  pub pod : ℕ
  pub far : End
  pub family : Family
  pub spot : PortSpot
  pub near_in : pod < length lists.pods
  pub far_in : IsListedEnd lists far
  pub apart : are_one_pod (Pod pod) far ≡ false
  pub of_family : Contains (packet_families lists (Pod pod) far) family
  pub at_spot : is_spot spot ≡ true
  pub stands : stands_in lists (ref_of direction one policy place) (decider_near lists direction (Pod pod) far family spot) ≡ true

none_stands : (lists : EstateLists) (direction : Direction) (one : Tier) (policy place : ℕ) → stands_in lists (ref_of direction one policy place) NoSide ≡ true → ⊥
none_stands lists direction tier.Admin policy place stands = false≢true stands
none_stands lists direction tier.Net policy place stands = false≢true stands
none_stands lists direction tier.Base policy place stands = false≢true stands

pub near_used : (lists : EstateLists) (direction : Direction) (one : Tier) (policy place : ℕ) → is_used lists (ref_of direction one policy place) ≡ true → UsedNear lists direction one policy place
near_used lists Egress one policy place used =
    let by = used_by lists (ref_of Egress one policy place) used in
    go by.from by.to by.family by.spot by.listed by.stands
  where
    go : (near far : End) (family : Family) (spot : PortSpot) → IsListedPacket lists near far family spot →
        stands_in lists (ref_of Egress one policy place) (decider_near lists Egress near far family spot) ≡ true → UsedNear lists Egress one policy place
    go (Pod p) far family spot listed stands = record {
      pod = p;
      far = far;
      family = family;
      spot = spot;
      near_in = listed.source;
      far_in = listed.destination;
      apart = listed.apart;
      of_family =
          listed.of_family;
      at_spot = listed.at_spot;
      stands = stands;
    }
    go (At a) far family spot listed stands = absurd (none_stands lists Egress one policy place stands)
near_used lists Ingress one policy place used =
    let by = used_by lists (ref_of Ingress one policy place) used in
    go by.to by.from by.family by.spot by.listed by.stands
  where
    go : (near far : End) (family : Family) (spot : PortSpot) → IsListedPacket lists far near family spot →
        stands_in lists (ref_of Ingress one policy place) (decider_near lists Ingress near far family spot) ≡ true → UsedNear lists Ingress one policy place
    go (Pod p) far family spot listed stands = record {
      pod = p;
      far = far;
      family = family;
      spot = spot;
      near_in = listed.destination;
      far_in = listed.source;
      apart = one_pod_flips far
          (Pod p) listed.apart;
      of_family = families_back lists p far family listed.of_family;
      at_spot = listed.at_spot;
      stands = stands;
    }
    go (At a) far family spot listed stands = absurd (none_stands lists Ingress one policy place stands)
