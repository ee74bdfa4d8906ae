-- What is found by the sides of all kinds is what is used. For `used_rules`.
use Rattle.std.proofs.Common.{◌≡◌, ◌≢◌, ℕ, zero, suc, get_or, ◌+◌, ◌-◌, ◌^◌, ◌<◌, List, [], ◌∷◌, Bool, true, false, ◌||◌, ◌==◌, not, length, slice_get, Some, refl, sym, ap, ◌∙◌, subst, inl, inr, arith}
use Rattle.std.specs.Cmp.{both_ways}
use Rattle.std.specs.List.{Contains}
use Rattle.std.proofs.lemmas.Bool.{and_from, eqb-false, false≢true, ne_eqb}
use Rattle.std.proofs.lemmas.Bool.Decides.{eqb_tells, nat_tests}
use Rattle.std.proofs.lemmas.Option.{same_Some}
use Rattle.np_addr.specs.Prelude.{IsAddress, family_of}
use Rattle.np_addr.specs.declared.address.Address.{Address}
use Rattle.np_unused.specs.Prelude.{AllAreUsed, AreKindPods, AreUsed, At, Direction, End, EstateLists, Family, Finds, Four, IsListedEnd, IsSound, KindPod, Knows, KnowsPods, KnowsSide, KnowsSides, Pod, PodsAreUsed, PortSpot, Six, Tier, UsedRules, is_asked, is_known, is_used, pod_kind, ref_of, rule_count_at, stands_in}
use Rattle.np_base.specs.declared.beside.Which.TheVariants.{First, Second}
use Rattle.np_conns.specs.Prelude.{is_spot}
use Rattle.np_model.specs.Prelude.{IsLawful, families_of}
use Rattle.np_explain.specs.Prelude.{are_one_pod, decider_near, packet_families}
use Rattle.np_unused.proofs.KindPodLemmas.{StandsFor, kind_pod, own_kind}
use Rattle.np_unused.proofs.PacketLemmas.{near_used, used_near}
use Rattle.np_rules.proofs.AddressLemmas.{place_parts}
use Rattle.np_rules.specs.Prelude.{AddressSpot, address, address_of, is_address_spot, pod, pod_at, side_of, spot_of, with_addresses}
use Rattle.np_sets.specs.Space.{is_between}

-- ---- what is asked for is listed

one_of : {X : Type 0} (x : X) → Contains (x ∷ []) x
one_of x = (0, omega arith, refl)

one_gives : {X : Type 0} (x y : X) (k : ℕ) → k < 1 → get_or (x ∷ []) k y ≡ y → y ≡ x
one_gives x y zero below is = sym is
one_gives x y (suc k) below is = absurd (omega arith)

module _ (lists : EstateLists) (lawful : IsLawful lists) (kinds : List KindPod) (are : AreKindPods lists kinds) (direction : Direction) where
  -- what decides between a pod of the estate and an address is used
  pub addresses_listed : (near : ℕ) (one : KindPod) → slice_get kinds near ≡ Some one → AllAreUsed is_address_spot (side_of lists one.pod direction) with_addresses
  unfolding AreUsed
  addresses_listed near one at place inside tier policy number valid stands =
      let parts = place_parts place inside in
      used_near lists direction tier policy number one.pod (At (address_of place)) (family_of (address_of place)) (spot_of place) (own_kind lists lawful kinds are near one at).0 parts.0 refl
      (one_of (family_of (address_of place))) parts.1 stands

  apart_by : (p q : ℕ) → p ≢ q → are_one_pod (Pod p) (Pod q) ≡ false
  apart_by p q differ = ne_eqb p q differ

  -- so is what decides between pods of two kinds, or of one that has two pods, in a family of the estate
  pub pods_listed : (near : ℕ) (one : KindPod) → slice_get kinds near ≡ Some one → (family : Family) → Contains (families_of lists.pods) family →
      PodsAreUsed (side_of lists one.pod direction) kinds near family
  unfolding AreUsed PodsAreUsed
  pods_listed near one at family of_family kind far far_at asked spot inside tier policy number valid stands =
      elim (eqb_tells kind near) [ inl same ↦ own same.0 same.1 | inr other ↦ others other.1 ]
    where
      near_own : (one.pod < length lists.pods) × (pod_kind lists one.pod ≡ near)
      near_own = own_kind lists lawful kinds are near one at

      far_own : (far.pod < length lists.pods) × (pod_kind lists far.pod ≡ kind)
      far_own = own_kind lists lawful kinds are kind far far_at

      others : kind ≢ near → is_used lists (ref_of direction tier policy number) ≡ true
      others differ =
          used_near lists direction tier policy number one.pod (Pod far.pod) family spot near_own.0 far_own.0
          (apart_by one.pod far.pod (λ same. differ (sym far_own.1 ∙ ap (pod_kind lists) (sym same) ∙ near_own.1))) of_family inside stands

      shared_by : (b : Bool) → kind == near ≡ true → (not (kind == near) || b) ≡ true → b ≡ true
      shared_by true test asked_for = refl
      shared_by false test asked_for = absurd (false≢true (ap (λ (t : Bool). not t || false) (sym test) ∙ asked_for))

      own : kind == near ≡ true → kind ≡ near → is_used lists (ref_of direction tier policy number) ≡ true
      own test same =
          let other = (are.each kind far far_at).shared (shared_by far.is_shared test asked) in
          let p = other.0 in
          let stand = kind_pod lists lawful kinds are p other.1 in
          let one_is : stand.0 ≡ far = same_Some stand.0 far (sym stand.1 ∙ ap (slice_get kinds) other.2 ∙ far_at) in
          let near_is : one ≡ far = same_Some one far (sym at ∙ ap (slice_get kinds) (sym same) ∙ far_at) in
          let stands_for = subst (λ (k : KindPod). StandsFor lists p k.pod) one_is stand.2 in
          used_near lists direction tier policy number one.pod (Pod p) family spot near_own.0 other.1
          (apart_by one.pod p (λ equal. other.3 (sym equal ∙ ap (λ (k : KindPod). k.pod) near_is))) of_family inside
          (ap (stands_in lists (ref_of direction tier policy number)) (stands_for.far direction (pod (pod_at lists one.pod)) family spot) ∙ stands)

  -- ---- what is used is found

  place_of : (a : Address) → IsAddress a → (spot : PortSpot) → is_spot spot ≡ true → (place : AddressSpot) × (is_address_spot place ≡ true) × (address_of place ≡ a) × (spot_of place ≡ spot)
  place_of (Four n) below spot inside = (First (record { point = n; spot = spot }), and_from _ _ (between n (2 ^ 32 - 1) (omega arith)) inside, refl, refl)
    where
      between : (m last : ℕ) → m < last + 1 → is_between 0 last m ≡ true
      between m last low = grind (arith, nat_tests)
  place_of (Six n) below spot inside = (Second (record { point = n; spot = spot }), and_from _ _ (between n (2 ^ 128 - 1) (omega arith)) inside, refl, refl)
    where
      between : (m last : ℕ) → m < last + 1 → is_between 0 last m ≡ true
      between m last low = grind (arith, nat_tests)

  asked_other : (b c : Bool) → c ≡ false → (not c || b) ≡ true
  asked_other b true is = absurd (false≢true (sym is))
  asked_other b false is = refl

  asked_shared : (b c : Bool) → b ≡ true → (not c || b) ≡ true
  asked_shared true true is = refl
  asked_shared true false is = refl
  asked_shared false c is = absurd (false≢true is)

  module _ (used : UsedRules) (knows : KnowsSides lists direction kinds used) (tier : Tier) (policy number : ℕ) (valid : number < rule_count_at lists tier direction policy) where
    side_knows : (near : ℕ) (one : KindPod) → slice_get kinds near ≡ Some one → KnowsSide (side_of lists one.pod direction) kinds near used
    unfolding KnowsSides
    side_knows near one at = knows near one at

    with_address : (p : ℕ) (a : Address) (family : Family) (spot : PortSpot) → p < length lists.pods → IsAddress a → family ≡ family_of a → is_spot spot ≡ true →
        stands_in lists (ref_of direction tier policy number) (decider_near lists direction (Pod p) (At a) family spot) ≡ true → is_known used tier policy number ≡ true
    unfolding Knows
    with_address p a family spot within below of_family inside stands =
        let stand = kind_pod lists lawful kinds are p within in
        let place = place_of a below spot inside in
        (side_knows (pod_kind lists p) stand.0 stand.1).addresses place.0 place.1 tier policy number valid
        (ap (stands_in lists (ref_of direction tier policy number))
        (ap (λ (b : Address). decider_near lists direction (Pod stand.0.pod) (At b) (family_of b) (spot_of place.0)) place.2
        ∙ ap (decider_near lists direction (Pod stand.0.pod) (At a) (family_of a)) place.3
        ∙ ap (λ (f : Family). decider_near lists direction (Pod stand.0.pod) (At a) f spot) (sym of_family)
        ∙ sym (stand.2.near direction (address a) family spot)) ∙ stands)

    with_peer : (p q : ℕ) (family : Family) (spot : PortSpot) → p < length lists.pods → q < length lists.pods → are_one_pod (Pod p) (Pod q) ≡ false → Contains (families_of lists.pods) family →
        is_spot spot ≡ true → stands_in lists (ref_of direction tier policy number) (decider_near lists direction (Pod p) (Pod q) family spot) ≡ true → is_known used tier policy number ≡ true
    unfolding Knows KnowsPods
    with_peer p q family spot p_in q_in apart of_family inside stands =
        let one = kind_pod lists lawful kinds are p p_in in
        let far = kind_pod lists lawful kinds are q q_in in
        (side_knows (pod_kind lists p) one.0 one.1).pods family of_family (pod_kind lists q) far.0 far.1 (asked one.0 one.1 far.0 far.1) spot inside tier policy number valid
        (ap (stands_in lists (ref_of direction tier policy number)) (sym (one.2.near direction (pod (pod_at lists q)) family spot ∙ far.2.far direction (pod (pod_at lists one.0.pod)) family spot))
        ∙ stands)
      where
        alone : (a b : KindPod) → slice_get kinds (pod_kind lists p) ≡ Some a → slice_get kinds (pod_kind lists q) ≡ Some b → pod_kind lists q ≡ pod_kind lists p → b.is_shared ≡ false → ⊥
        alone a b at_a at_b same unshared =
            let kind = are.each (pod_kind lists q) b at_b in
            let q_is = kind.alone unshared q q_in refl in
            let p_is = kind.alone unshared p p_in (sym same) in
            eqb-false p q apart (p_is ∙ sym q_is)

        asked : (a : KindPod) → slice_get kinds (pod_kind lists p) ≡ Some a → (b : KindPod) → slice_get kinds (pod_kind lists q) ≡ Some b → is_asked (pod_kind lists p) (pod_kind lists q) b ≡ true
        asked a at_a b at_b =
            elim (eqb_tells (pod_kind lists q) (pod_kind lists p)) [
              | inl same ↦ asked_shared b.is_shared _ (shared b.is_shared refl same.1)
              | inr other ↦ asked_other b.is_shared _ other.0
            ]
          where
            shared : (value : Bool) → b.is_shared ≡ value → pod_kind lists q ≡ pod_kind lists p → value ≡ true
            shared true is same = refl
            shared false is same = absurd (alone a b at_a at_b same is)

    -- a rule that is used is known
    used_known : is_used lists (ref_of direction tier policy number) ≡ true → is_known used tier policy number ≡ true
    used_known is =
        let by = near_used lists direction tier policy number is in
        go by.pod by.far by.family by.spot by.near_in by.far_in by.apart by.of_family by.at_spot by.stands
      where
        family_is : (a : Address) (family : Family) → Contains (family_of a ∷ []) family → family ≡ family_of a
        family_is a family has = one_gives (family_of a) family has.0 has.1 has.2

        go : (p : ℕ) (far : End) (family : Family) (spot : PortSpot) → p < length lists.pods → IsListedEnd lists far → are_one_pod (Pod p) far ≡ false →
            Contains (packet_families lists (Pod p) far) family → is_spot spot ≡ true →
            stands_in lists (ref_of direction tier policy number) (decider_near lists direction (Pod p) far family spot) ≡ true → is_known used tier policy number ≡ true
        go p (Pod q) family spot near_in far_in apart of_family inside stands = with_peer p q family spot near_in far_in apart of_family inside stands
        go p (At a) family spot near_in far_in apart of_family inside stands = with_address p a family spot near_in far_in (family_is a family of_family) inside stands

  -- what is known is what is used
  pub finds_all : (used : UsedRules) → IsSound lists direction used → KnowsSides lists direction kinds used → Finds lists direction used
  unfolding Finds IsSound
  finds_all used sound knows tier policy number valid =
      both_ways (is_known used tier policy number) (is_used lists (ref_of direction tier policy number)) (sound tier policy number valid) (used_known used knows tier policy number valid)
