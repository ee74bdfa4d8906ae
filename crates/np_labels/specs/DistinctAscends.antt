-- That values in the order of their bytes, each once, ascend: what the type of requirements asks of the values that are
-- put into one.
use Rattle.std.specs.Prelude.{◌≡◌, ℕ, List, [], ◌∷◌, fold, Bool, true, refl}
use Rattle.std.specs.BTreeSet.{insert_key}
use Rattle.std.specs.Bool.{passes}
use Rattle.std.specs.Cmp.Lexicographic.{slice_cmp, nat_list_cmp_total}
use Rattle.std.specs.List.{list_all}
use Rattle.std.specs.Ordering.{nat_cmp, is_lt, ordering_reverse, match_ordering}
use Rattle.std.specs.declared.cmp.Ordering.{Ordering}
use Rattle.std.specs.declared.cmp.Ordering.TheVariants.{Less, Equal, Greater}
use Rattle.std.proofs.Common.{ap, ◌∙◌}
use Rattle.std.proofs.lemmas.Bool.{and_parts, and_from}
use Rattle.np_base.specs.Texts.{compare_texts}
use Rattle.np_labels.specs.Values.{is_below, is_ascending, distinct}

pub Less-from_test : (o : Ordering) → is_lt o ≡ true → o ≡ Less
Less-from_test Less is = refl
Less-from_test Equal is = absurd (passes (is_lt Equal) is)
Less-from_test Greater is = absurd (passes (is_lt Greater) is)

-- a text is above one that is below it
flipped : (high low : List ℕ) → compare_texts high low ≡ Greater → is_below low high ≡ true
flipped high low above = ap is_lt (nat_list_cmp_total.antisymm low high ∙ ap ordering_reverse above)

-- what is below a value is below all that the value is below
below-trans : (low value : List ℕ) (values : List (List ℕ)) → compare_texts low value ≡ Less → list_all (is_below value) values ≡ true → list_all (is_below low) values ≡ true
below-trans low value [] below all = refl
below-trans low value (other ∷ values) below all =
    let parts = and_parts (is_below value other) (list_all (is_below value) values) all in
    and_from (is_below low other) (list_all (is_below low) values)
    (ap is_lt (nat_list_cmp_total.trans low value other below (Less-from_test (compare_texts value other) parts.0)))
    (below-trans low value values below parts.1)

-- a test that all values pass, and one more does, is passed by them together
pub list_all-insert_key : (test : List ℕ → Bool) (values : List (List ℕ)) (value : List ℕ) → list_all test values ≡ true → test value ≡ true → list_all test (insert_key (slice_cmp nat_cmp) values value) ≡ true
list_all-insert_key test [] value all here = and_from (test value) true here refl
list_all-insert_key test (first ∷ values) value all here =
    let parts = and_parts (test first) (list_all test values) all in
    by (compare_texts value first) (and_from (test first) (list_all test (insert_key compare_texts values value)) parts.0 (list_all-insert_key test values value parts.1 here))
  where
    by : (o : Ordering) → list_all test (first ∷ insert_key compare_texts values value) ≡ true
        → list_all test (match_ordering o (value ∷ first ∷ values) (first ∷ values) (first ∷ insert_key compare_texts values value)) ≡ true
    by Less others = and_from (test value) (list_all test (first ∷ values)) here all
    by Equal others = all
    by Greater others = others

is_ascending-insert_key : (values : List (List ℕ)) (value : List ℕ) → is_ascending values ≡ true → is_ascending (insert_key compare_texts values value) ≡ true
is_ascending-insert_key [] value ascending = refl
is_ascending-insert_key (first ∷ values) value ascending =
    let parts = and_parts (list_all (is_below first) values) (is_ascending values) ascending in
    by (compare_texts value first) refl parts.0 (is_ascending-insert_key values value parts.1)
  where
    by : (o : Ordering) → compare_texts value first ≡ o → list_all (is_below first) values ≡ true → is_ascending (insert_key compare_texts values value) ≡ true
        → is_ascending (match_ordering o (value ∷ first ∷ values) (first ∷ values) (first ∷ insert_key compare_texts values value)) ≡ true
    by Less is above others =
        and_from (list_all (is_below value) (first ∷ values)) (is_ascending (first ∷ values))
        (and_from (is_below value first) (list_all (is_below value) values) (ap is_lt is) (below-trans value first values is above)) ascending
    by Equal is above others = ascending
    by Greater is above others =
        and_from (list_all (is_below first) (insert_key compare_texts values value)) (is_ascending (insert_key compare_texts values value))
        (list_all-insert_key (is_below first) values value above (flipped value first is)) others

is_ascending-fold : (made values : List (List ℕ)) → is_ascending made ≡ true → is_ascending (fold (insert_key compare_texts) made values) ≡ true
is_ascending-fold made [] ascending = ascending
is_ascending-fold made (value ∷ values) ascending = is_ascending-fold (insert_key compare_texts made value) values (is_ascending-insert_key made value ascending)

-- the values ascend
pub distinct-ascends : (values : List (List ℕ)) → is_ascending (distinct values) ≡ true
distinct-ascends values = is_ascending-fold [] values refl
