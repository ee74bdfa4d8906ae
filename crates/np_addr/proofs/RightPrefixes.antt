-- The list that the definition gives is right for its set. For `prefixes_are_right`, `prefixes` and crates above.
use Rattle.std.proofs.Common.{◌≡◌, ℕ, zero, suc, ◌+◌, ◌-◌, ◌*◌, ◌/◌, ◌%◌, ◌^◌, ◌<◌, ◌≤◌, Bool, true, false, ◌&&◌, ◌||◌, List, [], ◌∷◌, ◌++◌, All, AllPairs, Any, flat_map, refl, sym, ap, ◌∙◌, inl, inr, arith, lit≤}
use Rattle.std.proofs.Math.Nat.{mul-mod_left, add-mod_right, pow-suc, pow-le-pow_right}
use Rattle.std.proofs.lemmas.Bool.{and_parts, and_from, or_cases, or_from, cases_lt, cases_Bool, leb-true, le-leb, false_from_ne_true, both_ways, false≢true}
use Rattle.std.proofs.lemmas.Bool.Decides.{nat_tests}
use Rattle.std.proofs.lemmas.List.Elements.{All-nil, All-cons, All-append, All-weaker}
use Rattle.std.proofs.lemmas.List.Folds.{list_any-append, list_any_none}
use Rattle.std.proofs.lemmas.List.Kept.{AllPairs-cons}
use Rattle.std.proofs.lemmas.Nat.{pow_pos, shr_split}
use Rattle.std.proofs.Math.Bool.{or-false}
use Rattle.np_addr.specs.Prelude.{Address, AddressRanges, AreDisjoint, Cidr, Family, IsAddressSet, IsCidr, IsRightPrefixList, LiesIn, Range, StandsBefore, block_at, blocks_in, cidr_has, is_covered, is_inside, prefixes_of, range_prefixes, set_has, some_block_has, width_of}
use Rattle.np_base.specs.Ranges.{is_within, holds, IsAscending}
use Rattle.np_base.proofs.Ranges.{is_within-past, holds-before}
use Rattle.np_base.proofs.Lists.{AllPairs-append}
use Rattle.np_addr.specs.declared.address.Address.TheVariants as address
use Rattle.np_addr.specs.declared.address.Family.TheVariants as family
use Rattle.np_addr.specs.declared.cidr.Cidr.TheVariants as cidr
use Rattle.np_addr.proofs.BlockEnds.{address_at, IsBetween, Spans, EndsBefore, IsBetween-block_at, Spans-block_at, IsCidr-block_at, has-block_at, IsBetween-wider, EndsBefore-between, EndsBefore-families, other_family_four, other_family_six, disjoint_by_ends, stands_by_ends, lies_four, lies_six}
use Rattle.np_addr.proofs.Pairs.{AllPairs-nil, AllPairs-weaker, Any-cons, Any-weaker, Any-append_left, Any-append_right}
use Rattle.np_addr.proofs.PrefixLemmas.{is_inside-from, is_inside-parts, blocks_in-by_halves}
use Rattle.np_addr.proofs.SubsetLemmas.{in_block-parts, in_block-from, ends_within}

-- ---- the blocks of one range in one block

first_half : (base half : ℕ) → base % 2 ^ suc half ≡ 0 → base % 2 ^ half ≡ 0
first_half base half aligned =
    let times = base / 2 ^ suc half in
    let twice : times * 2 ^ suc half ≡ times * (2 ^ half * 2) = ap (λ (size : ℕ). times * size) (pow-suc 2 half) in
    let whole : base ≡ times * 2 * 2 ^ half = omega (arith, shr_split base (suc half), twice, aligned) in
    ap (λ (n : ℕ). n % 2 ^ half) whole ∙ mul-mod_left (times * 2) (2 ^ half)

second_half : (base half : ℕ) → base % 2 ^ suc half ≡ 0 → (base + 2 ^ half) % 2 ^ half ≡ 0
second_half base half aligned = add-mod_right base (2 ^ half) ∙ first_half base half aligned

abbrev in_range : Range ℕ → ℕ → Bool
in_range range n = is_within (λ a. a) range n

in_range-parts : (range : Range ℕ) (n : ℕ) → in_range range n ≡ true → (range.lo ≤ n) × (n ≤ range.hi)
in_range-parts range n held = let parts = and_parts _ _ held in (leb-true range.lo n parts.0, leb-true n range.hi parts.1)

-- what holds of the blocks of a range in the block of the family that begins at `base`
record AreBlocksIn (family : Family) (range : Range ℕ) (base free : ℕ) (blocks : List Cidr) : Type 0 where
  of_block : All (IsBetween family base (base + 2 ^ free)) blocks
  of_range : All (IsBetween family range.lo (range.hi + 1)) blocks
  well : All IsCidr blocks
  ordered : AllPairs EndsBefore blocks
  members : (n : ℕ) → some_block_has blocks (address_at family n) ≡ (is_covered base free n && in_range range n)
  greatest : (inner fewer : ℕ) → fewer ≤ width_of family → inner % 2 ^ fewer ≡ 0 → base ≤ inner → inner + 2 ^ fewer ≤ base + 2 ^ free → range.lo ≤ inner → inner + 2 ^ fewer ≤ range.hi + 1 →
      Any (Spans family inner (inner + 2 ^ fewer)) blocks

-- two tests of which the first tells the second
alone : (x y : Bool) → (x ≡ true → y ≡ true) → (x || false) ≡ (x && y)
alone true y tells = sym (tells refl)
alone false y tells = refl

absorbed : (x y : Bool) → (y ≡ true → x ≡ true) → (x && y) ≡ y
absorbed true y tells = refl
absorbed false true tells = tells refl
absorbed false false tells = refl

both_parts : (x y z : Bool) → ((x && z) || (y && z)) ≡ ((x || y) && z)
both_parts true y true = refl
both_parts true true false = refl
both_parts true false false = refl
both_parts false y z = refl

whole_block : (family : Family) (range : Range ℕ) (base free : ℕ) → free ≤ width_of family → base % 2 ^ free ≡ 0 → is_inside range base free ≡ true →
    AreBlocksIn family range base free (block_at family base free ∷ [])
whole_block family range base free short aligned inside =
    let parts = is_inside-parts range base free inside in
    let block = block_at family base free in
    record {
      of_block = All-cons (IsBetween family base (base + 2 ^ free)) block [] (IsBetween-block_at family base free base (base + 2 ^ free) short (omega arith) (omega arith))
          (All-nil (IsBetween family base (base + 2 ^ free)));
      of_range = All-cons (IsBetween family range.lo (range.hi + 1)) block [] (IsBetween-block_at family base free range.lo (range.hi + 1) short parts.0 parts.1)
          (All-nil (IsBetween family range.lo (range.hi + 1)));
      well = All-cons IsCidr block [] (IsCidr-block_at family base free short aligned) (All-nil IsCidr);
      ordered = AllPairs-cons EndsBefore block [] (All-nil (EndsBefore block)) (AllPairs-nil EndsBefore);
      members = λ n.
          ap (λ (t : Bool). t || false) (has-block_at family base free n short)
          ∙ alone (is_covered base free n) (in_range range n) (λ held.
          let place = in_block-parts base free n held in
          and_from _ _ (le-leb range.lo n (omega arith)) (le-leb n range.hi (omega arith)));
      greatest = λ inner fewer shorter rest above below low high.
          Any-cons (Spans family inner (inner + 2 ^ fewer)) block [] (Spans-block_at family base free inner (inner + 2 ^ fewer) short above below);
    }

no_block : (family : Family) (range : Range ℕ) (base : ℕ) → is_inside range base zero ≡ false → AreBlocksIn family range base zero []
no_block family range base out = record {
  of_block = All-nil (IsBetween family base (base + 2 ^ zero));
  of_range = All-nil (IsBetween family range.lo (range.hi + 1));
  well = All-nil IsCidr;
  ordered = AllPairs-nil EndsBefore;
  members = λ n. sym (false_from_ne_true _ (λ held.
      let parts = and_parts (is_covered base zero n) (in_range range n) held in
      let place = in_block-parts base zero n parts.0 in
      let within = in_range-parts range n parts.1 in
      both_ways _ out (is_inside-from range base zero (omega arith) (omega arith))));
  greatest = λ inner fewer shorter rest above below low high.
      let some = pow_pos fewer in
      absurd (both_ways _ out (is_inside-from range base zero (omega arith) (omega arith)));
}

in_halves : (base half n : ℕ) → (is_covered base half n || is_covered (base + 2 ^ half) half n) ≡ is_covered base (suc half) n
in_halves base half n = let double = pow-suc 2 half in let some = pow_pos half in grind (arith, nat_tests)

-- a block that is not all in the range has no part in the range that is more than a half
at_most_half : (range : Range ℕ) (base half inner fewer : ℕ) → is_inside range base (suc half) ≡ false → base ≤ inner → inner + 2 ^ fewer ≤ base + 2 ^ suc half → range.lo ≤ inner →
    inner + 2 ^ fewer ≤ range.hi + 1 → fewer ≤ half
at_most_half range base half inner fewer out above below low high =
    elim (cases_lt half fewer) [
      | inl larger ↦
          let great : 2 ^ suc half ≤ 2 ^ fewer = pow-le-pow_right (lit≤ tt) larger in
          absurd (both_ways _ out (is_inside-from range base (suc half) (omega arith) (omega arith)))
      | inr fits ↦ fits
    ]

cut_block : (family : Family) (range : Range ℕ) (base half : ℕ) (xs ys : List Cidr) → suc half ≤ width_of family → base % 2 ^ suc half ≡ 0 → is_inside range base (suc half) ≡ false →
    AreBlocksIn family range base half xs → AreBlocksIn family range (base + 2 ^ half) half ys → AreBlocksIn family range base (suc half) (xs ++ ys)
cut_block family range base half xs ys short aligned out first second =
    let double = pow-suc 2 half in
    let middle = base + 2 ^ half in
    let low_part = IsBetween family base middle in
    let high_part = IsBetween family middle (middle + 2 ^ half) in
    let all = IsBetween family base (base + 2 ^ suc half) in
    record {
      of_block = All-append all xs ys
          (All-weaker low_part all (IsBetween-wider family base middle base (base + 2 ^ suc half) (omega arith) (omega arith)) xs first.of_block)
          (All-weaker high_part all (IsBetween-wider family middle (middle + 2 ^ half) base (base + 2 ^ suc half) (omega arith) (omega arith)) ys second.of_block);
      of_range = All-append (IsBetween family range.lo (range.hi + 1)) xs ys first.of_range second.of_range;
      well = All-append IsCidr xs ys first.well second.well;
      ordered = AllPairs-append EndsBefore low_part high_part (EndsBefore-between family base middle middle (middle + 2 ^ half) (omega arith)) xs ys first.ordered second.ordered first.of_block
          second.of_block;
      members = λ n.
          list_any-append (λ block. cidr_has block (address_at family n)) xs ys
          ∙ ap (λ (t : Bool). t || some_block_has ys (address_at family n)) (first.members n)
          ∙ ap (λ (t : Bool). (is_covered base half n && in_range range n) || t) (second.members n)
          ∙ both_parts (is_covered base half n) (is_covered middle half n) (in_range range n)
          ∙ ap (λ (t : Bool). t && in_range range n) (in_halves base half n);
      greatest = λ inner fewer shorter rest above below low high.
          let fits = at_most_half range base half inner fewer out above below low high in
          let spans = Spans family inner (inner + 2 ^ fewer) in
          elim (cases_lt inner middle) [
            | inl before ↦ Any-append_left spans xs ys (first.greatest inner fewer shorter rest above (ends_within base half inner fewer (first_half base half aligned) rest fits before) low high)
            | inr past ↦ Any-append_right spans xs ys (second.greatest inner fewer shorter rest past (omega arith) low high)
          ];
    }

blocks_in_block : (family : Family) (range : Range ℕ) (base free : ℕ) → free ≤ width_of family → base % 2 ^ free ≡ 0 → AreBlocksIn family range base free (blocks_in family range base free)
blocks_in_block family range base free =
    blocks_in-by_halves family range (λ b f blocks. f ≤ width_of family → b % 2 ^ f ≡ 0 → AreBlocksIn family range b f blocks)
    (λ b f inside short aligned. whole_block family range b f short aligned inside)
    (λ b out short aligned. no_block family range b out)
    (λ b half xs ys out first second short aligned.
    cut_block family range b half xs ys short aligned out (first (omega arith) (first_half b half aligned)) (second (omega arith) (second_half b half aligned)))
    base free

-- ---- the blocks of all ranges of a family

record AreBlocksOf (family : Family) (from last : ℕ) (ranges : List (Range ℕ)) (blocks : List Cidr) : Type 0 where
  of_family : All (IsBetween family from (last + 1)) blocks
  well : All IsCidr blocks
  ordered : AllPairs EndsBefore blocks
  members : (n : ℕ) → some_block_has blocks (address_at family n) ≡ holds (λ a. a) ranges n
  greatest : (inner fewer : ℕ) → fewer ≤ width_of family → inner % 2 ^ fewer ≡ 0 → ((n : ℕ) → inner ≤ n → n < inner + 2 ^ fewer → holds (λ a. a) ranges n ≡ true) →
      Any (Spans family inner (inner + 2 ^ fewer)) blocks

no_ranges : (family : Family) (from last : ℕ) → AreBlocksOf family from last [] []
no_ranges family from last = record {
  of_family = All-nil (IsBetween family from (last + 1));
  well = All-nil IsCidr;
  ordered = AllPairs-nil EndsBefore;
  members = λ n. refl;
  greatest = λ inner fewer shorter rest every. absurd (false≢true (every inner (omega arith) (omega (arith, pow_pos fewer))));
}

-- what begins in a range and has numbers of the list alone ends in that range
ends_in_range : (from last : ℕ) (range : Range ℕ) (ranges : List (Range ℕ)) (inner end : ℕ) → IsAscending (λ a. a) from last (range ∷ ranges) → inner ≤ range.hi →
    ((n : ℕ) → inner ≤ n → n < end → holds (λ a. a) (range ∷ ranges) n ≡ true) → end ≤ range.hi + 1
ends_in_range from last range ranges inner end ascends begins every =
    elim (cases_lt (range.hi + 1) end) [
      | inl past ↦
          let missing = or_from _ _ (is_within-past (λ a. a) range (range.hi + 1) (omega arith)) (holds-before (λ a. a) (range.hi + 2) last ranges (range.hi + 1) ascends.3 (omega arith)) in
          absurd (both_ways _ missing (every (range.hi + 1) (omega arith) past))
      | inr within ↦ within
    ]

-- what does not begin in the first range has numbers of the later ones alone
in_later : (from last : ℕ) (range : Range ℕ) (ranges : List (Range ℕ)) (inner end : ℕ) → IsAscending (λ a. a) from last (range ∷ ranges) → inner < end → in_range range inner ≡ false →
    ((n : ℕ) → inner ≤ n → n < end → holds (λ a. a) (range ∷ ranges) n ≡ true) → (n : ℕ) → inner ≤ n → n < end → holds (λ a. a) ranges n ≡ true
in_later from last range ranges inner end ascends some out every n above below =
    let begins : holds (λ a. a) ranges inner ≡ true = elim (or_cases _ _ (every inner (omega arith) some)) [ inl within ↦ absurd (both_ways _ out within) | inr held ↦ held ] in
    let behind : range.hi + 2 ≤ inner = elim (cases_lt inner (range.hi + 2)) [
      | inl before ↦ absurd (both_ways _ (holds-before (λ a. a) (range.hi + 2) last ranges inner ascends.3 before) begins)
      | inr past ↦ past
    ] in
    elim (or_cases _ _ (every n above below)) [
      | inl within ↦ absurd (both_ways _ (is_within-past (λ a. a) range n (omega arith)) within)
      | inr held ↦ held
    ]

more_ranges : (family : Family) (from last : ℕ) (range : Range ℕ) (ranges : List (Range ℕ)) (xs ys : List Cidr) → last + 1 ≤ 2 ^ width_of family → IsAscending (λ a. a) from last (range ∷ ranges) →
    AreBlocksIn family range 0 (width_of family) xs → AreBlocksOf family (range.hi + 2) last ranges ys → AreBlocksOf family from last (range ∷ ranges) (xs ++ ys)
more_ranges family from last range ranges xs ys room ascends first more =
    let low_part = IsBetween family range.lo (range.hi + 1) in
    let high_part = IsBetween family (range.hi + 2) (last + 1) in
    let all = IsBetween family from (last + 1) in
    record {
      of_family = All-append all xs ys
          (All-weaker low_part all (IsBetween-wider family range.lo (range.hi + 1) from (last + 1) (omega arith) (omega arith)) xs first.of_range)
          (All-weaker high_part all (IsBetween-wider family (range.hi + 2) (last + 1) from (last + 1) (omega arith) (omega arith)) ys more.of_family);
      well = All-append IsCidr xs ys first.well more.well;
      ordered = AllPairs-append EndsBefore low_part high_part (EndsBefore-between family range.lo (range.hi + 1) (range.hi + 2) (last + 1) (omega arith)) xs ys first.ordered more.ordered
          first.of_range more.of_family;
      members = λ n.
          let in_family = absorbed (is_covered 0 (width_of family) n) (in_range range n) (λ held.
          let place = in_range-parts range n held in
          in_block-from 0 (width_of family) n (omega arith) (omega arith)) in
          list_any-append (λ block. cidr_has block (address_at family n)) xs ys
          ∙ ap (λ (t : Bool). t || some_block_has ys (address_at family n)) (first.members n ∙ in_family)
          ∙ ap (λ (t : Bool). in_range range n || t) (more.members n);
      greatest = λ inner fewer shorter rest every.
          let some = pow_pos fewer in
          let spans = Spans family inner (inner + 2 ^ fewer) in
          elim (cases_Bool (in_range range inner)) [
            | inl within ↦
                let place = in_range-parts range inner within in
                let ends = ends_in_range from last range ranges inner (inner + 2 ^ fewer) ascends place.1 every in
                Any-append_left spans xs ys (first.greatest inner fewer shorter rest (omega arith) (omega arith) place.0 ends)
            | inr out ↦
                Any-append_right spans xs ys (more.greatest inner fewer shorter rest (in_later from last range ranges inner (inner + 2 ^ fewer) ascends (omega arith) out every))
          ];
    }

aligned_start : (family : Family) → 0 % 2 ^ width_of family ≡ 0
aligned_start family.Four = refl
aligned_start family.Six = refl

blocks_of_ranges : (family : Family) (from last : ℕ) (ranges : List (Range ℕ)) → last + 1 ≤ 2 ^ width_of family → IsAscending (λ a. a) from last ranges →
    AreBlocksOf family from last ranges (flat_map (λ range. range_prefixes family range) ranges)
blocks_of_ranges family from last [] room ascends = no_ranges family from last
blocks_of_ranges family from last (range ∷ ranges) room ascends =
    more_ranges family from last range ranges _ _ room ascends (blocks_in_block family range 0 (width_of family) (omega arith) (aligned_start family))
    (blocks_of_ranges family (range.hi + 2) last ranges room ascends.3)

-- ---- the blocks of both families

exact_in_both : (set : AddressRanges) (end_four end_six : ℕ) (xs ys : List Cidr) → AreBlocksOf family.Four 0 end_four set.first xs → AreBlocksOf family.Six 0 end_six set.second ys → (a : Address) →
    some_block_has (xs ++ ys) a ≡ set_has set a
exact_in_both set end_four end_six xs ys four six (address.Four n) =
    list_any-append (λ block. cidr_has block (address.Four n)) xs ys
    ∙ ap (λ (t : Bool). t || some_block_has ys (address.Four n)) (four.members n)
    ∙ ap (λ (t : Bool). holds (λ a. a) set.first n || t) (list_any_none (λ block. cidr_has block (address.Four n)) ys
    (All-weaker (IsBetween family.Six 0 (end_six + 1)) (λ block. cidr_has block (address.Four n) ≡ false) (other_family_six 0 (end_six + 1) n) ys six.of_family))
    ∙ or-false (holds (λ a. a) set.first n)
exact_in_both set end_four end_six xs ys four six (address.Six n) =
    list_any-append (λ block. cidr_has block (address.Six n)) xs ys
    ∙ ap (λ (t : Bool). t || some_block_has ys (address.Six n)) (list_any_none (λ block. cidr_has block (address.Six n)) xs
    (All-weaker (IsBetween family.Four 0 (end_four + 1)) (λ block. cidr_has block (address.Six n) ≡ false) (other_family_four 0 (end_four + 1) n) xs four.of_family))
    ∙ six.members n

greatest_in_both : (set : AddressRanges) (end_four end_six : ℕ) (xs ys : List Cidr) → AreBlocksOf family.Four 0 end_four set.first xs → AreBlocksOf family.Six 0 end_six set.second ys →
    (block : Cidr) → IsCidr block → ((a : Address) → cidr_has block a ≡ true → set_has set a ≡ true) → Any (LiesIn block) (xs ++ ys)
greatest_in_both set end_four end_six xs ys four six (cidr.Four base len) well every =
    Any-append_left (LiesIn (cidr.Four base len)) xs ys
    (Any-weaker (Spans family.Four base (base + 2 ^ (32 - len))) (LiesIn (cidr.Four base len)) (lies_four base len) xs
    (four.greatest base (32 - len) (omega arith) well.1 (λ n above below. every (address.Four n) (in_block-from base (32 - len) n above below))))
greatest_in_both set end_four end_six xs ys four six (cidr.Six base len) well every =
    Any-append_right (LiesIn (cidr.Six base len)) xs ys
    (Any-weaker (Spans family.Six base (base + 2 ^ (128 - len))) (LiesIn (cidr.Six base len)) (lies_six base len) ys
    (six.greatest base (128 - len) (omega arith) well.1 (λ n above below. every (address.Six n) (in_block-from base (128 - len) n above below))))

right_in_both : (set : AddressRanges) (end_four end_six : ℕ) (xs ys : List Cidr) → AreBlocksOf family.Four 0 end_four set.first xs → AreBlocksOf family.Six 0 end_six set.second ys →
    IsRightPrefixList set (xs ++ ys)
right_in_both set end_four end_six xs ys four six =
    let ordered = AllPairs-append EndsBefore (IsBetween family.Four 0 (end_four + 1)) (IsBetween family.Six 0 (end_six + 1))
    (EndsBefore-families 0 (end_four + 1) 0 (end_six + 1)) xs ys four.ordered six.ordered four.of_family six.of_family in
    record {
      well = All-append IsCidr xs ys four.well six.well;
      disjoint = AllPairs-weaker EndsBefore AreDisjoint disjoint_by_ends (xs ++ ys) ordered;
      ascending = AllPairs-weaker EndsBefore StandsBefore stands_by_ends (xs ++ ys) ordered;
      exact = exact_in_both set end_four end_six xs ys four six;
      greatest = greatest_in_both set end_four end_six xs ys four six;
    }

pub prefixes_of-right : (set : AddressRanges) → IsAddressSet set → IsRightPrefixList set (prefixes_of set)
prefixes_of-right set well =
    right_in_both set (2 ^ 32 - 1) (2 ^ 128 - 1) _ _ (blocks_of_ranges family.Four 0 (2 ^ 32 - 1) set.first (lit≤ tt) well.0) (blocks_of_ranges family.Six 0 (2 ^ 128 - 1) set.second (lit≤ tt) well.1)

-- ---- each block is well formed, whatever the ranges are

well_in_block : (family : Family) (range : Range ℕ) → All IsCidr (range_prefixes family range)
well_in_block family range = (blocks_in_block family range 0 (width_of family) (omega arith) (aligned_start family)).well

well_of_ranges : (family : Family) (ranges : List (Range ℕ)) → All IsCidr (flat_map (λ range. range_prefixes family range) ranges)
well_of_ranges family [] = All-nil IsCidr
well_of_ranges family (range ∷ ranges) = All-append IsCidr (range_prefixes family range) _ (well_in_block family range) (well_of_ranges family ranges)

pub prefixes_of-well : (set : AddressRanges) → All IsCidr (prefixes_of set)
prefixes_of-well set = All-append IsCidr _ _ (well_of_ranges family.Four set.first) (well_of_ranges family.Six set.second)
