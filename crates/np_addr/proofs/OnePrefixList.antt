-- One list is right for a set, and none with its addresses is shorter.
-- For `no_prefix_list_is_shorter`, `one_prefix_list_is_right` and crates above.
use Rattle.std.proofs.Common.{◌≡◌, ℕ, ◌+◌, ◌-◌, ◌^◌, ◌<◌, ◌≤◌, Bool, true, false, not, List, [], ◌∷◌, length, get_or, All, AllPairs, Any, Contains, filter, sym, ap, ◌∙◌, inl, inr, arith}
use Rattle.std.proofs.lemmas.Bool.{cases_Bool, cases_order, or_cases, or_left, or_right, false_from_ne_true, both_ways, false≢true}
use Rattle.std.proofs.lemmas.List.{get_or_default}
use Rattle.std.proofs.lemmas.List.Elements.{All-head, All-tail, All-filter}
use Rattle.std.proofs.lemmas.List.Folds.{list_any_at}
use Rattle.std.proofs.lemmas.List.Sums.{length-filter, count_by-le-length}
use Rattle.std.proofs.lemmas.Nat.{pow_pos, pow_below}
use Rattle.std.specs.List.{list_any}
use Rattle.np_base.proofs.Lists.{AllPairs-head, AllPairs-tail}
use Rattle.np_addr.specs.Prelude.{Address, AddressRanges, AreDisjoint, Cidr, IsCidr, IsRightPrefixList, LiesIn, StandsBefore, base_of, cidr_has, is_covered, set_has, some_block_has}
use Rattle.np_addr.specs.declared.address.Address.TheVariants as address
use Rattle.np_addr.specs.declared.cidr.Cidr.TheVariants as cidr
use Rattle.np_addr.proofs.SameLists.{same_elements_same_lists}
use Rattle.np_addr.proofs.SubsetLemmas.{in_block-parts, in_block-from}

-- ---- blocks with the same addresses

pub base_is_in : (block : Cidr) → cidr_has block (base_of block) ≡ true
base_is_in (cidr.Four base len) = in_block-from base (32 - len) base (omega arith) (omega (arith, pow_pos (32 - len)))
base_is_in (cidr.Six base len) = in_block-from base (128 - len) base (omega arith) (omega (arith, pow_pos (128 - len)))

-- a block that lies in another begins in it and ends in it
lies_between : (base free inner fewer : ℕ) → ((n : ℕ) → is_covered inner fewer n ≡ true → is_covered base free n ≡ true) → (base ≤ inner) × (inner + 2 ^ fewer ≤ base + 2 ^ free)
lies_between base free inner fewer lies =
    let some = pow_pos fewer in
    let last = inner + 2 ^ fewer - 1 in
    let begins = in_block-parts base free inner (lies inner (in_block-from inner fewer inner (omega arith) (omega arith))) in
    let ends = in_block-parts base free last (lies last (in_block-from inner fewer last (omega arith) (omega arith))) in
    (begins.0, omega arith)

same_size : (free fewer : ℕ) → 2 ^ free ≡ 2 ^ fewer → free ≡ fewer
same_size free fewer same =
    elim (cases_order free fewer) [
      | inl equal ↦ equal
      | inr apart ↦ elim apart [
        | inl less ↦ absurd (omega (arith, pow_below free fewer less))
        | inr more ↦ absurd (omega (arith, pow_below fewer free more))
      ]
    ]

same_numbers : (base free inner fewer : ℕ) → ((n : ℕ) → is_covered inner fewer n ≡ true → is_covered base free n ≡ true) → ((n : ℕ) → is_covered base free n ≡ true → is_covered inner fewer n ≡ true) →
    (base ≡ inner) × (free ≡ fewer)
same_numbers base free inner fewer lies back =
    let one = lies_between base free inner fewer lies in
    let other = lies_between inner fewer base free back in
    (omega arith, same_size free fewer (omega arith))

same_addresses : (block other : Cidr) → IsCidr block → IsCidr other → LiesIn block other → LiesIn other block → block ≡ other
same_addresses (cidr.Four base len) (cidr.Four inner longer) well other_well lies back =
    let same = same_numbers base (32 - len) inner (32 - longer) (λ n. back (address.Four n)) (λ n. lies (address.Four n)) in
    let length_same : len ≡ longer = omega arith in
    ap (λ (n : ℕ). cidr.Four n len) same.0 ∙ ap (λ (n : ℕ). cidr.Four inner n) length_same
same_addresses (cidr.Six base len) (cidr.Six inner longer) well other_well lies back =
    let same = same_numbers base (128 - len) inner (128 - longer) (λ n. back (address.Six n)) (λ n. lies (address.Six n)) in
    let length_same : len ≡ longer = omega arith in
    ap (λ (n : ℕ). cidr.Six n len) same.0 ∙ ap (λ (n : ℕ). cidr.Six inner n) length_same
same_addresses (cidr.Four base len) (cidr.Six inner longer) well other_well lies back =
    absurd (false≢true (lies (address.Four base) (base_is_in (cidr.Four base len))))
same_addresses (cidr.Six base len) (cidr.Four inner longer) well other_well lies back =
    absurd (false≢true (lies (address.Six base) (base_is_in (cidr.Six base len))))

stands_one_way : (block next : Cidr) → StandsBefore block next → StandsBefore next block → ⊥
stands_one_way (cidr.Four base len) (cidr.Four inner longer) before after = omega arith
stands_one_way (cidr.Six base len) (cidr.Six inner longer) before after = omega arith
stands_one_way (cidr.Four base len) (cidr.Six inner longer) before after = after
stands_one_way (cidr.Six base len) (cidr.Four inner longer) before after = before

-- ---- one list is right

-- blocks of a right list that have one address are one
same_place : (blocks : List Cidr) (i j : ℕ) (d : Cidr) (a : Address) → AllPairs AreDisjoint blocks → i < length blocks → j < length blocks → cidr_has (get_or blocks i d) a ≡ true →
    cidr_has (get_or blocks j d) a ≡ true → i ≡ j
same_place blocks i j d a disjoint in_i in_j has_i has_j =
    elim (cases_order i j) [
      | inl same ↦ same
      | inr apart ↦ elim apart [
        | inl before ↦ absurd (both_ways _ (disjoint i j d before in_j a has_i) has_j)
        | inr after ↦ absurd (both_ways _ (disjoint j i d after in_i a has_j) has_i)
      ]
    ]

-- a block of a list with the set's addresses lies in one block of a right list
lies_in_one : (set : AddressRanges) (blocks others : List Cidr) (k : ℕ) (d : Cidr) → IsRightPrefixList set blocks → All IsCidr others → ((a : Address) → some_block_has others a ≡ set_has set a) →
    k < length others → Any (LiesIn (get_or others k d)) blocks
lies_in_one set blocks others k d right well exact within =
    right.greatest (get_or others k d) (well k d within) (λ a held. sym (exact a) ∙ list_any_at (λ block. cidr_has block a) others k d within held)

-- each block of a right list is in every right list
in_both : (set : AddressRanges) (blocks others : List Cidr) → IsRightPrefixList set blocks → IsRightPrefixList set others → (block : Cidr) → Contains blocks block → Contains others block
in_both set blocks others right also block (i, in_i, is) =
    let (k, other, in_k, other_is, lies) = lies_in_one set others blocks i block also right.well right.exact in_i in
    let (j, third, in_j, third_is, back) = lies_in_one set blocks others k other right also.well also.exact in_k in
    let inside : LiesIn block other = rw is at lies in
    let around : LiesIn other third = rw other_is at back in
    let at_j : get_or blocks j block ≡ third = get_or_default blocks j block third in_j ∙ third_is in
    let base = base_of block in
    let has_i : cidr_has (get_or blocks i block) base ≡ true = ap (λ (c : Cidr). cidr_has c base) is ∙ base_is_in block in
    let has_j : cidr_has (get_or blocks j block) base ≡ true = ap (λ (c : Cidr). cidr_has c base) at_j ∙ around base (inside base (base_is_in block)) in
    let same_index : i ≡ j = same_place blocks i j block base right.disjoint in_i in_j has_i has_j in
    let third_same : third ≡ block = sym at_j ∙ ap (λ (n : ℕ). get_or blocks n block) (sym same_index) ∙ is in
    let outside : LiesIn other block = rw third_same at around in
    let block_well : IsCidr block = rw is at (right.well i block in_i) in
    let other_well : IsCidr other = rw other_is at (also.well k other in_k) in
    let same : other ≡ block = same_addresses other block other_well block_well outside inside in
    (k, in_k, get_or_default others k block other in_k ∙ other_is ∙ same)

pub one_right_list : (set : AddressRanges) (blocks others : List Cidr) → IsRightPrefixList set blocks → IsRightPrefixList set others → blocks ≡ others
one_right_list set blocks others right also =
    same_elements_same_lists StandsBefore stands_one_way blocks others right.ascending also.ascending (in_both set blocks others right also) (in_both set others blocks also right)

-- ---- no list is shorter

-- what passes a test that none of the others passes with it stays where those are taken away
still_any : {Y : Type 0} (p q : Y → Bool) (Q : Y → Type 0) → ((y : Y) → Q y → p y ≡ true → q y ≡ false) → (ys : List Y) → All Q ys → list_any q ys ≡ true →
    list_any q (filter (λ y. not (p y)) ys) ≡ true
still_any p q Q apart [] all found = found
still_any p q Q apart (y ∷ ys) all found =
    let rest = filter (λ z. not (p z)) ys in
    let later = still_any p q Q apart ys (All-tail Q y ys all) in
    elim (cases_Bool (p y)) [
      | inl passes ↦
          elim (or_cases (q y) (list_any q ys) found) [
            | inl here ↦ absurd (both_ways _ (apart y (All-head Q y ys all) passes) here)
            | inr behind ↦ rw passes (later behind)
          ]
      | inr fails ↦
          elim (or_cases (q y) (list_any q ys) found) [
            | inl here ↦ rw fails (or_left (q y) (list_any q rest) here)
            | inr behind ↦ rw fails (or_right (q y) (list_any q rest) (later behind))
          ]
    ]

fewer_left : {Y : Type 0} (p : Y → Bool) (ys : List Y) → list_any p ys ≡ true → length (filter (λ y. not (p y)) ys) < length ys
fewer_left p [] found = absurd (false≢true found)
fewer_left p (y ∷ ys) found =
    elim (cases_Bool (p y)) [
      | inl passes ↦ rw passes (omega (arith, length-filter (λ y. not (p y)) ys, count_by-le-length (λ y. not (p y)) ys))
      | inr fails ↦
          elim (or_cases _ _ found) [
            | inl here ↦ absurd (both_ways _ fails here)
            | inr later ↦ rw fails (omega (arith, fewer_left p ys later))
          ]
    ]

-- Where each of the first list has one of the second, and none of the second is had by two, the second is as long.
as_many : {X Y : Type 0} (has : X → Y → Bool) (Q : Y → Type 0) (xs : List X) (ys : List Y) → All (λ x. list_any (has x) ys ≡ true) xs →
    AllPairs (λ x z. (y : Y) → Q y → has x y ≡ true → has z y ≡ false) xs → All Q ys → length xs ≤ length ys
as_many has Q [] ys found apart all = omega arith
as_many {X} {Y} has Q (x ∷ xs) ys found apart all =
    let left = filter (λ y. not (has x y)) ys in
    let others = AllPairs-head (λ z w. (y : Y) → Q y → has z y ≡ true → has w y ≡ false) x xs apart in
    let still : All (λ z. list_any (has z) left ≡ true) xs = λ k d within. still_any (has x) (has (get_or xs k d)) Q (others k d within) ys all
    (All-tail (λ z. list_any (has z) ys ≡ true) x xs found k d within) in
    let fewer = fewer_left (has x) ys (All-head (λ z. list_any (has z) ys ≡ true) x xs found) in
    let rest = as_many has Q xs left still (AllPairs-tail (λ z w. (y : Y) → Q y → has z y ≡ true → has w y ≡ false) x xs apart) (All-filter (λ y. not (has x y)) Q ys all) in
    omega arith

-- a block that lies in one block of a list of disjoint blocks has the first address of one of them at most
base_of_one : (blocks : List Cidr) → AllPairs AreDisjoint blocks →
    AllPairs (λ block next. (other : Cidr) → Any (LiesIn other) blocks → cidr_has other (base_of block) ≡ true → cidr_has other (base_of next) ≡ false) blocks
base_of_one blocks disjoint = λ i j d before in_j other (k, around, in_k, is, lies) has_i.
    false_from_ne_true _ (λ has_j.
    let at_k : get_or blocks k d ≡ around = get_or_default blocks k d around in_k ∙ is in
    let base_i = base_of (get_or blocks i d) in
    let base_j = base_of (get_or blocks j d) in
    let around_i : cidr_has (get_or blocks k d) base_i ≡ true = ap (λ (c : Cidr). cidr_has c base_i) at_k ∙ lies base_i has_i in
    let around_j : cidr_has (get_or blocks k d) base_j ≡ true = ap (λ (c : Cidr). cidr_has c base_j) at_k ∙ lies base_j has_j in
    let in_i : i < length blocks = omega arith in
    let one = same_place blocks i k d base_i disjoint in_i in_k (base_is_in (get_or blocks i d)) around_i in
    let two = same_place blocks j k d base_j disjoint in_j in_k (base_is_in (get_or blocks j d)) around_j in
    omega arith)

pub no_shorter_list : (set : AddressRanges) (blocks others : List Cidr) → IsRightPrefixList set blocks → All IsCidr others → ((a : Address) → some_block_has others a ≡ set_has set a) →
    length blocks ≤ length others
no_shorter_list set blocks others right well exact =
    as_many (λ block other. cidr_has other (base_of block)) (λ other. Any (LiesIn other) blocks) blocks others
    (λ k d within.
    let base = base_of (get_or blocks k d) in
    exact base ∙ sym (right.exact base) ∙ list_any_at (λ block. cidr_has block base) blocks k d within (base_is_in (get_or blocks k d)))
    (base_of_one blocks right.disjoint)
    (λ k d within. lies_in_one set blocks others k d right well exact within)
