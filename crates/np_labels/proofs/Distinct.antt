-- Values in the order of their bytes, each once. For `Requirement::of`, `values_ascend` and crates above.
use Rattle.std.proofs.Common.{◌≡◌, ℕ, List, [], ◌∷◌, length, fold, Bool, true, false, ◌||◌, ◌==◌, refl, sym, ap, ◌∙◌}
use Rattle.std.specs.BTreeSet.{insert_key}
use Rattle.std.specs.Cmp.Lexicographic.{slice_cmp, bytes_decides}
use Rattle.std.specs.List.{AllByRecursion, list_all}
use Rattle.std.specs.List.Sorted.{IsStrictlySortedBy}
use Rattle.std.specs.Ordering.{nat_cmp, is_eq, match_ordering}
use Rattle.std.specs.Str.{bytes_eq}
use Rattle.std.specs.declared.cmp.Ordering.{Ordering}
use Rattle.std.specs.declared.cmp.Ordering.TheVariants.{Less, Equal, Greater}
use Rattle.std.proofs.lemmas.Bool.{and_parts}
use Rattle.std.proofs.Math.Bool.{or-false, or_comm}
use Rattle.std.proofs.lemmas.Map.Text.{is_eq-slice_cmp}
use Rattle.np_base.proofs.Lists.{some-more}
use Rattle.np_base.proofs.Bools.{or-leftwards}
use Rattle.np_labels.specs.Prelude.{Less-from_test, distinct, distinct-ascends, is_ascending, is_below, is_listed, list_all-insert_key}

-- ---- which values

or_twice : (b more : Bool) → (b || more) ≡ ((b || more) || b)
or_twice true more = refl
or_twice false true = refl
or_twice false false = refl

-- one more value is listed, wherever it is put
is_listed-insert_key : (values : List (List ℕ)) (value s : List ℕ) → is_listed (insert_key (slice_cmp nat_cmp) values value) s ≡ (is_listed values s || bytes_eq value s)
is_listed-insert_key [] value s = or-false (bytes_eq value s)
is_listed-insert_key (first ∷ values) value s = by (slice_cmp nat_cmp value first) refl (is_listed-insert_key values value s)
  where
    by : (o : Ordering) → slice_cmp nat_cmp value first ≡ o → is_listed (insert_key (slice_cmp nat_cmp) values value) s ≡ (is_listed values s || bytes_eq value s)
        → is_listed (match_ordering o (value ∷ first ∷ values) (first ∷ values) (first ∷ insert_key (slice_cmp nat_cmp) values value)) s ≡ (is_listed (first ∷ values) s || bytes_eq value s)
    by Less is others = or_comm (bytes_eq value s) (is_listed (first ∷ values) s)
    by Equal is others =
        let same : value ≡ first = (bytes_decides value first).0 (sym (is_eq-slice_cmp value first) ∙ ap is_eq is) in
        rw same (or_twice (bytes_eq first s) (is_listed values s))
    by Greater is others = rw others (or-leftwards (bytes_eq first s) (is_listed values s) (bytes_eq value s))

is_listed-fold : (made values : List (List ℕ)) (s : List ℕ) → is_listed (fold (insert_key (slice_cmp nat_cmp)) made values) s ≡ (is_listed made s || is_listed values s)
is_listed-fold made [] s = sym (or-false (is_listed made s))
is_listed-fold made (value ∷ values) s =
    is_listed-fold (insert_key (slice_cmp nat_cmp) made value) values s
    ∙ rw (is_listed-insert_key made value s) (sym (or-leftwards (is_listed made s) (bytes_eq value s) (is_listed values s)))

-- the values in order, each once, are the values
pub is_listed-distinct : (values : List (List ℕ)) (s : List ℕ) → is_listed (distinct values) s ≡ is_listed values s
is_listed-distinct values s = is_listed-fold [] values s

-- ---- what all values pass

list_all-fold : (test : List ℕ → Bool) (made values : List (List ℕ)) → list_all test made ≡ true → list_all test values ≡ true →
    list_all test (fold (insert_key (slice_cmp nat_cmp)) made values) ≡ true
list_all-fold test made [] before all = before
list_all-fold test made (value ∷ values) before all =
    let parts = and_parts (test value) (list_all test values) all in
    list_all-fold test (insert_key (slice_cmp nat_cmp) made value) values (list_all-insert_key test made value before parts.0) parts.1

-- a test that all values pass is passed by them in order, each once
pub list_all-distinct : (test : List ℕ → Bool) (values : List (List ℕ)) → list_all test values ≡ true → list_all test (distinct values) ≡ true
list_all-distinct test values all = list_all-fold test [] values refl all

-- ---- whether there are some

is_empty-insert_key : (values : List (List ℕ)) (value : List ℕ) → (length (insert_key (slice_cmp nat_cmp) values value) == 0) ≡ false
is_empty-insert_key [] value = some-more value []
is_empty-insert_key (first ∷ values) value = by (slice_cmp nat_cmp value first)
  where
    by : (o : Ordering) → (length (match_ordering o (value ∷ first ∷ values) (first ∷ values) (first ∷ insert_key (slice_cmp nat_cmp) values value)) == 0) ≡ false
    by Less = some-more value (first ∷ values)
    by Equal = some-more first values
    by Greater = some-more first (insert_key (slice_cmp nat_cmp) values value)

is_empty-fold : (made values : List (List ℕ)) → (length made == 0) ≡ false → (length (fold (insert_key (slice_cmp nat_cmp)) made values) == 0) ≡ false
is_empty-fold made [] some = some
is_empty-fold made (value ∷ values) some = is_empty-fold (insert_key (slice_cmp nat_cmp) made value) values (is_empty-insert_key made value)

-- in order and each once there are none exactly where there are none
pub is_empty-distinct : (values : List (List ℕ)) → (length (distinct values) == 0) ≡ (length values == 0)
is_empty-distinct [] = refl
is_empty-distinct (value ∷ values) = is_empty-fold (value ∷ []) values (some-more value []) ∙ sym (some-more value values)

-- ---- their order

all_above : (value : List ℕ) (values : List (List ℕ)) → list_all (is_below value) values ≡ true → AllByRecursion (λ other. slice_cmp nat_cmp value other ≡ Less) values
all_above value [] all = tt
all_above value (other ∷ values) all =
    let parts = and_parts (is_below value other) (list_all (is_below value) values) all in
    (Less-from_test (slice_cmp nat_cmp value other) parts.0, all_above value values parts.1)

-- values that ascend by the test are sorted
pub sorted-from_ascending : (values : List (List ℕ)) → is_ascending values ≡ true → IsStrictlySortedBy (slice_cmp nat_cmp) values
unfolding IsStrictlySortedBy
sorted-from_ascending [] ascending = tt
sorted-from_ascending (value ∷ values) ascending =
    let parts = and_parts (list_all (is_below value) values) (is_ascending values) ascending in
    (all_above value values parts.0, sorted-from_ascending values parts.1)

-- in order and each once they are sorted
pub distinct-sorted : (values : List (List ℕ)) → IsStrictlySortedBy (slice_cmp nat_cmp) (distinct values)
distinct-sorted values = sorted-from_ascending (distinct values) (distinct-ascends values)
