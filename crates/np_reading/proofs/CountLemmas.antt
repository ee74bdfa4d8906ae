-- Counts of items, and neighbours of one priority. For `contexts`, `count_left_out` and `refuse_equal_neighbours`.
use Rattle.std.proofs.Common.{◌≡◌, ℕ, zero, suc, ◌+◌, ◌<◌, ◌≤◌, List, [], ◌∷◌, length, get_or, Bool, false, cond, Option, Some, None, refl, sym, ap, ◌∙◌, arith, add-zero, add-one}
use Rattle.std.specs.Prelude.{fold}
use Rattle.std.specs.List.{count_by, range_with_len, slice_get}
use Rattle.std.specs.Option.{option_map_or}
use Rattle.std.proofs.Math.Nat.{zero-add}
use Rattle.std.proofs.lemmas.List.FromFn.{length-map-range_with_len, get_or-map-range_with_len}
use Rattle.std.proofs.lemmas.Option.{slice_get_read}
use Rattle.np_reading.specs.Prelude.{Item, LeftOut, Rank, first_equal, is_for, is_left_out, left_out}
use Rattle.np_owners.specs.Prelude.{makers, makes_pod}

-- there is a mark for each item
pub length-makers : (items : List Item) (marks : List Bool) → marks ≡ makers items → length marks ≡ length items
length-makers items marks are = ap length are ∙ length-map-range_with_len (makes_pod items) 0 (length items)

-- what the mark of a place says
pub maker_at : (items : List Item) (marks : List Bool) (place : ℕ) (d : Bool) → marks ≡ makers items → place < length items → get_or marks place d ≡ makes_pod items place
maker_at items marks place d are within =
    ap (λ (all : List Bool). get_or all place d) are
    ∙ get_or-map-range_with_len (makes_pod items) 0 (length items) place place d within (zero-add place)

-- one number more, on top of a total
count_on-more : (test : ℕ → Bool) (total a n : ℕ) →
    fold (λ so_far k. so_far + cond (test k) 1 0) total (range_with_len a (suc n)) ≡ fold (λ so_far k. so_far + cond (test k) 1 0) total (range_with_len a n) + cond (test (a + n)) 1 0
count_on-more test total a zero = ap (λ k. total + cond (test k) 1 0) (sym (add-zero a))
count_on-more test total a (suc n) =
    let so_far = fold (λ so_far k. so_far + cond (test k) 1 0) (total + cond (test a) 1 0) (range_with_len (a + 1) n) in
    let same : a + 1 + n ≡ a + suc n = omega arith in
    count_on-more test (total + cond (test a) 1 0) (a + 1) n ∙ ap (λ k. so_far + cond (test k) 1 0) same

-- whether the item at a place is left out
pub is_left_out_at : (items : List Item) (why : LeftOut) (place : ℕ) (one : Item) (makes found : Bool) (reason : Option LeftOut) → place < length items → one ≡ get_or items place one →
    makes ≡ makes_pod items place
    → reason ≡ left_out makes one → found ≡ option_map_or (is_for why) reason false → found ≡ is_left_out items why place
is_left_out_at items why place one makes found reason within at marked is whether =
    let there : slice_get items place ≡ Some one = slice_get_read items (length items) place one refl within at in
    rw (whether, is, marked, there) refl

-- one item more
pub count-left_out : (items : List Item) (why : LeftOut) (place count more : ℕ) (found : Bool) → found ≡ is_left_out items why place → count ≡ count_by (is_left_out items why) (range_with_len 0 place)
    → more ≡ count + cond found 1 0 → more ≡ count_by (is_left_out items why) (range_with_len 0 (place + 1))
count-left_out items why place count more found is so_far step =
    let test = is_left_out items why in
    let whole : count_by test (range_with_len 0 (place + 1)) ≡ count_by test (range_with_len 0 place) + cond (test place) 1 0 =
    ap (λ n. count_by test (range_with_len 0 n)) (add-one place) ∙ count_on-more test 0 0 place ∙ ap (λ n. count_by test (range_with_len 0 place) + cond (test n) 1 0) (zero-add place) in
    step ∙ rw (so_far, is) (sym whole)

-- one rank alone has no neighbour
pub first_equal-short : (ranks : List Rank) → length ranks ≤ 1 → first_equal ranks ≡ None
first_equal-short [] short = refl
first_equal-short (a ∷ []) short = refl
first_equal-short (a ∷ b ∷ ranks) short = absurd (omega (arith, short))
