-- One list of parts is right, and what the right one says of each spot.
-- For `both_sides_give_the_verdict`, `each_spot_is_in_one_part` and 3 more.
use Rattle.std.proofs.Common.{◌≡◌, ◌⊎◌, ◌↔◌, IsTrue, List, [], ◌∷◌, Bool, true, false, ◌&&◌, ◌||◌, filter, map, All, AllPairs, refl, sym, ap, ◌∙◌, subst, arith, inl, inr, if◌then◌else◌}
use Rattle.std.specs.Cmp.{both_ways}
use Rattle.std.specs.List.{list_any}
use Rattle.std.proofs.lemmas.Bool.{false≢true}
use Rattle.std.proofs.lemmas.List.Elements.{All-head, All-tail}
use Rattle.np_base.proofs.Lists.{AllPairs-head, AllPairs-tail}
use Rattle.np_explain.specs.Prelude.{AreRightParts, Decider, Direction, Egress, End, EstateLists, Family, Ingress, Part, PortSpot, StartsBefore, decider_at, decider_between, end_at, packet_between}
use Rattle.np_conns.specs.Prelude.{Conns, IsConns, equal_by_spots, has_spot, has_spot-is_spot, is_spot}
use Rattle.np_rules.proofs.DeciderLemmas.{decider_says}
use Rattle.np_rules.specs.Prelude.{IsAmong, ModelPacket, allows, contact_of, decider_allows, end_allows}
use Rattle.np_explain.proofs.PartLemmas.{some_part_has}

-- ---- lists in a strict order

record IsStrict {X : Type 0} (R : X → X → Type 0) : Type 0 where
  pub never : (x : X) → R x x → ⊥
  pub once : (x y : X) → R x y → R y x → ⊥

pub among_all : {X : Type 0} (P : X → Type 0) (xs : List X) → All P xs → (x : X) → IsAmong x xs → P x
among_all P [] all x among = absurd among
among_all P (y ∷ ys) all x (inl same) = subst P (sym same) (All-head P y ys all)
among_all P (y ∷ ys) all x (inr later) = among_all P ys (All-tail P y ys all) x later

-- lists in a strict order that have the same items are equal
one_list : {X : Type 0} (R : X → X → Type 0) → IsStrict R → (xs ys : List X) → AllPairs R xs → AllPairs R ys → ((z : X) → IsAmong z xs → IsAmong z ys) → ((z : X) → IsAmong z ys → IsAmong z xs) →
    xs ≡ ys
one_list R strict [] [] in_xs in_ys forth back = refl
one_list R strict [] (y ∷ ys) in_xs in_ys forth back = absurd (back y (inl refl))
one_list R strict (x ∷ xs) [] in_xs in_ys forth back = absurd (forth x (inl refl))
one_list {X} R strict (x ∷ xs) (y ∷ ys) in_xs in_ys forth back =
    ap (λ z. z ∷ xs) first ∙ ap (λ (zs : List X). y ∷ zs) (one_list R strict xs ys (AllPairs-tail R x xs in_xs) (AllPairs-tail R y ys in_ys) (λ z among. keep z among (forth z (inr among)))
    (λ z among. kept z among (back z (inr among))))
  where
    after_x : (z : X) → IsAmong z xs → R x z
    after_x = among_all (R x) xs (AllPairs-head R x xs in_xs)

    after_y : (z : X) → IsAmong z ys → R y z
    after_y = among_all (R y) ys (AllPairs-head R y ys in_ys)

    firsts : (x ≡ y) ⊎ IsAmong x ys → (y ≡ x) ⊎ IsAmong y xs → x ≡ y
    firsts (inl same) other = same
    firsts (inr later) (inl same) = sym same
    firsts (inr later) (inr other) = absurd (strict.once x y (after_x y other) (after_y x later))

    first : x ≡ y
    first = firsts (forth x (inl refl)) (back y (inl refl))

    keep : (z : X) → IsAmong z xs → (z ≡ y) ⊎ IsAmong z ys → IsAmong z ys
    keep z among (inl same) = absurd (strict.never x (subst (R x) (same ∙ sym first) (after_x z among)))
    keep z among (inr later) = later

    kept : (z : X) → IsAmong z ys → (z ≡ x) ⊎ IsAmong z xs → IsAmong z xs
    kept z among (inl same) = absurd (strict.never y (subst (R y) (same ∙ first) (after_y z among)))
    kept z among (inr later) = later

-- ---- parts

starts_strictly : IsStrict (λ (a b : Part). StartsBefore a.conns b.conns)
starts_strictly = record {
  never = λ x starts. absurd (omega (arith, starts.first starts.spot starts.has));
  once = λ x y one other. absurd (omega (arith, one.first other.spot other.has, other.first one.spot one.has));
}

-- some part among them has the spot
some_among : (spot : PortSpot) (parts : List Part) → some_part_has spot parts ≡ true → (part : Part) × IsAmong part parts × (has_spot part.conns spot ≡ true)
some_among spot [] has = absurd (false≢true has)
some_among spot (part ∷ parts) has = go (has_spot part.conns spot) refl has (λ some. some_among spot parts some)
  where
    go : (b : Bool) → has_spot part.conns spot ≡ b → (b || some_part_has spot parts) ≡ true → (some_part_has spot parts ≡ true → (one : Part) × IsAmong one parts × (has_spot one.conns spot ≡ true)) →
        (one : Part) × IsAmong one (part ∷ parts) × (has_spot one.conns spot ≡ true)
    go true is some later = (part, inl refl, is)
    go false is some later = let found = later some in (found.0, inr found.1, found.2)

module _ (decides : PortSpot → Decider) where
  -- a right part is among all right parts
  shared : (parts others : List Part) → AreRightParts decides parts → AreRightParts decides others → (part : Part) → IsAmong part parts → IsAmong part others
  shared parts others right_parts right_others part among =
      subst (λ (one : Part). IsAmong one others) (sym same) other.1
    where
      filled : (spot : PortSpot) × (has_spot part.conns spot ≡ true)
      filled = among_all (λ p. (spot : PortSpot) × (has_spot p.conns spot ≡ true)) parts right_parts.filled part among

      well : IsConns part.conns
      well = among_all (λ p. IsConns p.conns) parts right_parts.well part among

      inside : is_spot filled.0 ≡ true
      inside = has_spot-is_spot part.conns filled.0 well filled.1

      other : (one : Part) × IsAmong one others × (has_spot one.conns filled.0 ≡ true)
      other = some_among filled.0 others (right_others.all filled.0 inside)

      spots : (spot : PortSpot) → is_spot spot ≡ true → IsTrue (has_spot part.conns spot) ↔ (decides spot ≡ part.decider)
      spots = among_all (λ p. (spot : PortSpot) → is_spot spot ≡ true → IsTrue (has_spot p.conns spot) ↔ (decides spot ≡ p.decider)) parts right_parts.spots part among

      other_spots : (spot : PortSpot) → is_spot spot ≡ true → IsTrue (has_spot other.0.conns spot) ↔ (decides spot ≡ other.0.decider)
      other_spots = among_all (λ p. (spot : PortSpot) → is_spot spot ≡ true → IsTrue (has_spot p.conns spot) ↔ (decides spot ≡ p.decider)) others right_others.spots other.0 other.1

      other_well : IsConns other.0.conns
      other_well = among_all (λ p. IsConns p.conns) others right_others.well other.0 other.1

      deciders : part.decider ≡ other.0.decider
      deciders = sym ((spots filled.0 inside).0 filled.1) ∙ (other_spots filled.0 inside).0 other.2

      sets : part.conns ≡ other.0.conns
      sets =
          equal_by_spots part.conns other.0.conns well other_well (λ spot.
          both_ways (has_spot part.conns spot) (has_spot other.0.conns spot)
          (λ has. let within = has_spot-is_spot part.conns spot well has in (other_spots spot within).1 ((spots spot within).0 has ∙ deciders))
          (λ has. let within = has_spot-is_spot other.0.conns spot other_well has in (spots spot within).1 ((other_spots spot within).0 has ∙ sym deciders)))

      same : part ≡ other.0
      same =
          let of_decider : Decider → Part = λ d. record { decider = d; conns = part.conns } in
          let of_set : Conns → Part = λ set. record { decider = other.0.decider; conns = set } in
          ap of_decider deciders ∙ ap of_set sets

  pub one_is_right : (parts others : List Part) → AreRightParts decides parts → AreRightParts decides others → parts ≡ others
  one_is_right parts others right_parts right_others =
      one_list (λ a b. StartsBefore a.conns b.conns) starts_strictly parts others right_parts.ordered right_others.ordered (shared parts others right_parts right_others)
      (shared others parts right_others right_parts)

-- ---- each spot

none_kept : {X : Type 0} (test : X → Bool) (xs : List X) → All (λ x. test x ≡ true → ⊥) xs → filter test xs ≡ []
none_kept test [] none = refl
none_kept {X} test (x ∷ xs) none = go (test x) refl (none_kept test xs (All-tail (λ y. test y ≡ true → ⊥) x xs none))
  where
    go : (b : Bool) → test x ≡ b → filter test xs ≡ [] → (if b then x ∷ filter test xs else filter test xs) ≡ []
    go true is rest = absurd (All-head (λ y. test y ≡ true → ⊥) x xs none is)
    go false is rest = rest

one_kept : (test : Part → Bool) (d : Decider) (parts : List Part) → AllPairs (λ a b. test a ≡ true → test b ≡ true → ⊥) parts → All (λ a. test a ≡ true → d ≡ a.decider) parts →
    list_any test parts ≡ true → map (λ part. part.decider) (filter test parts) ≡ d ∷ []
one_kept test d [] apart are some = absurd (false≢true some)
one_kept test d (part ∷ parts) apart are some =
    go (test part) refl some (λ any. one_kept test d parts (AllPairs-tail (λ a b. test a ≡ true → test b ≡ true → ⊥) part parts apart)
    (All-tail (λ a. test a ≡ true → d ≡ a.decider) part parts are) any)
  where
    go : (b : Bool) → test part ≡ b → (b || list_any test parts) ≡ true → (list_any test parts ≡ true → map (λ p. p.decider) (filter test parts) ≡ d ∷ []) →
        map (λ p. p.decider) (if b then part ∷ filter test parts else filter test parts) ≡ d ∷ []
    go true is any later =
        let others : List Part → List Decider = λ ps. part.decider ∷ map (λ p. p.decider) ps in
        let single : Decider → List Decider = λ e. e ∷ [] in
        ap others (none_kept test parts (λ k e within passes. AllPairs-head (λ a b. test a ≡ true → test b ≡ true → ⊥) part parts apart k e within is passes))
        ∙ ap single (sym (All-head (λ a. test a ≡ true → d ≡ a.decider) part parts are is))
    go false is any later = later any

pub one_part : (decides : PortSpot → Decider) (parts : List Part) (spot : PortSpot) → AreRightParts decides parts → is_spot spot ≡ true →
    map (λ part. part.decider) (filter (λ part. has_spot part.conns spot) parts) ≡ decides spot ∷ []
one_part decides parts spot right inside =
    one_kept (λ part. has_spot part.conns spot) (decides spot) parts
    (λ i j d earlier within has_a has_b. right.distinct i j d earlier within (sym ((right.spots i d (omega arith) spot inside).0 has_a) ∙ (right.spots j d within spot inside).0 has_b))
    (λ k d within. (right.spots k d within spot inside).0)
    (right.all spot inside)

-- ---- verdicts

pub parts_say : (lists : EstateLists) (direction : Direction) (source destination : End) (family : Family) (parts : List Part) →
    AreRightParts (decider_between lists direction source destination family) parts →
    All (λ part. (spot : PortSpot) → has_spot part.conns spot ≡ true → decider_allows part.decider ≡ end_allows lists direction (end_at direction (packet_between lists source destination family spot))
    (contact_of direction (packet_between lists source destination family spot))) parts
parts_say lists direction source destination family parts right = λ k d within spot has.
    let inside = has_spot-is_spot _ spot (right.well k d within) has in
    let packet = packet_between lists source destination family spot in
    sym (ap decider_allows ((right.spots k d within spot inside).0 has)) ∙ decider_says lists direction (end_at direction packet) (contact_of direction packet)

pub both_say : (lists : EstateLists) (packet : ModelPacket) → allows lists packet ≡ (decider_allows (decider_at lists Egress packet) && decider_allows (decider_at lists Ingress packet))
unfolding allows
both_say lists packet =
    ap (λ (b : Bool). b && end_allows lists Ingress packet.destination (contact_of Ingress packet)) (sym (decider_says lists Egress packet.source (contact_of Egress packet)))
    ∙ ap (λ (b : Bool). decider_allows (decider_at lists Egress packet) && b) (sym (decider_says lists Ingress packet.destination (contact_of Ingress packet)))
