-- The first row with a mark tells the first pair that is split. For `first_split`, `split_in_rows` and crates above.
use Rattle.std.proofs.Common.{◌≡◌, ℕ, ◌<◌, List, [], ◌∷◌, ◌++◌, Bool, true, false, not, ◌&&◌, ◌||◌, ◌⊎◌, Option, Some, None, map, flat_map, length, if◌then◌else◌, arith, refl, sym, ap, subst, ◌∙◌, inl, inr}
use Rattle.std.specs.Prelude.{MatchOption, is_some}
use Rattle.std.specs.List.{find}
use Rattle.std.specs.Option.{option_or}
use Rattle.std.proofs.lemmas.Bool.{and_parts, cases_Bool, not-false, true≢false}
use Rattle.std.proofs.lemmas.List.{length-map}
use Rattle.std.proofs.lemmas.List.Folds.{find-append}
use Rattle.std.proofs.Math.Bool.{and-false}
use Rattle.np_flatten.specs.Prelude.{AddressRow, Direction, Egress, EstateLists, Family, Four, Ingress, Pod, Range, Row, Six, first_pair, first_split_of, is_defined, is_split, set_in, split_of, two_differ}
use Rattle.np_classes.specs.Classes.{places}
use Rattle.np_conns.specs.Prelude.{Conns, are_same_conns}
use Rattle.np_model.specs.Prelude.{families_of, has_family}
use Rattle.np_fold.specs.Prelude.{Workload, folding_of}
use Rattle.np_flatten.proofs.FirstPairs.{first_pair-none}
use Rattle.np_kinds.proofs.PairLemmas.{pair_allows-alone}
use Rattle.np_conns.proofs.ConnLemmas.{are_same_conns-Decides, conns_of-agrees}
use Rattle.np_table.specs.Prelude.{Table, address_rows, all_address_rows, all_pair_rows, all_rows, estate_table, has_no_range, is_nothing, pair_key, pair_rows, row_if, row_of, rows_in, rows_towards, table_of, workloads}
use Rattle.np_kinds.specs.Prelude.{is_alone, number_of_workloads}

-- ---- rows of several lists

or_more : (a b c : Option (ℕ × ℕ)) → option_or a (option_or b c) ≡ option_or (option_or a b) c
or_more None b c = refl
or_more (Some x) b c = refl

first_split-append : (xs ys : List Row) → first_split_of (xs ++ ys) ≡ option_or (first_split_of xs) (first_split_of ys)
first_split-append [] ys = refl
first_split-append (x ∷ xs) ys =
    ap (option_or (split_of x)) (first_split-append xs ys) ∙ or_more (split_of x) (first_split_of xs) (first_split_of ys)

-- of lists that each tell the first pair of another, all tell that of all others
flat_map-first : (test : ℕ × ℕ → Bool) (f : ℕ → List Row) (g : ℕ → List (ℕ × ℕ)) (ks : List ℕ) → ((k : ℕ) → first_split_of (f k) ≡ find test (g k)) →
    first_split_of (flat_map f ks) ≡ find test (flat_map g ks)
flat_map-first test f g [] same = refl
flat_map-first test f g (k ∷ ks) same =
    first_split-append (f k) (flat_map f ks)
    ∙ ap (λ (o : Option (ℕ × ℕ)). option_or o (first_split_of (flat_map f ks))) (same k)
    ∙ ap (option_or (find test (g k))) (flat_map-first test f g ks same)
    ∙ sym (find-append test (g k) (flat_map g ks))

or_if : (b : Bool) (x : ℕ × ℕ) (rest : Option (ℕ × ℕ)) → option_or (if b then Some x else None) rest ≡ (if b then Some x else rest)
or_if true x rest = refl
or_if false x rest = refl

-- the same where each tells of one pair
map-first : (test : ℕ × ℕ → Bool) (f : ℕ → List Row) (g : ℕ → ℕ × ℕ) (ks : List ℕ) → ((k : ℕ) → first_split_of (f k) ≡ (if test (g k) then Some (g k) else None)) →
    first_split_of (flat_map f ks) ≡ find test (map g ks)
map-first test f g [] same = refl
map-first test f g (k ∷ ks) same =
    first_split-append (f k) (flat_map f ks)
    ∙ ap (λ (o : Option (ℕ × ℕ)). option_or o (first_split_of (flat_map f ks))) (same k)
    ∙ or_if (test (g k)) (g k) (first_split_of (flat_map f ks))
    ∙ ap (λ (rest : Option (ℕ × ℕ)). if test (g k) then Some (g k) else rest) (map-first test f g ks same)

-- lists without a mark
flat_map-unmarked : (f : ℕ → List Row) (ks : List ℕ) → ((k : ℕ) → first_split_of (f k) ≡ None) → first_split_of (flat_map f ks) ≡ None
flat_map-unmarked f [] none = refl
flat_map-unmarked f (k ∷ ks) none =
    first_split-append (f k) (flat_map f ks)
    ∙ ap (λ (o : Option (ℕ × ℕ)). option_or o (first_split_of (flat_map f ks))) (none k)
    ∙ flat_map-unmarked f ks none

-- ---- the rows of a pair

pub nothing_is : (conns : Conns) → is_nothing conns ≡ true → conns ≡ record { tcp = []; udp = []; sctp = [] }
nothing_is conns is =
    let outer = and_parts (has_no_range conns.tcp && has_no_range conns.udp) (has_no_range conns.sctp) is in
    let inner = and_parts (has_no_range conns.tcp) (has_no_range conns.udp) outer.0 in
    let with_tcp : List (Range ℕ) → Conns = λ ranges. record { tcp = ranges; udp = conns.udp; sctp = conns.sctp } in
    let with_udp : List (Range ℕ) → Conns = λ ranges. record { tcp = []; udp = ranges; sctp = conns.sctp } in
    let with_sctp : List (Range ℕ) → Conns = λ ranges. record { tcp = []; udp = []; sctp = ranges } in
    ap with_tcp (none_is conns.tcp inner.0) ∙ ap with_udp (none_is conns.udp inner.1) ∙ ap with_sctp (none_is conns.sctp outer.1)
  where
    none_is : (ranges : List (Range ℕ)) → has_no_range ranges ≡ true → ranges ≡ []
    none_is [] is = refl
    none_is (range ∷ ranges) is = let never : false ≡ true = is in absurd (cc)

abbrev told : ℕ → ℕ → Option (ℕ × ℕ)
told x y = Some (x, y)

row_if-unmarked : (x y : ℕ) (conns : Conns) → first_split_of (row_if (pair_key x y) None conns) ≡ None
row_if-unmarked x y conns = by (is_nothing conns)
  where
    by : (nothing : Bool) → first_split_of (if nothing then [] else record { key = pair_key x y; family = None; conns = conns } ∷ []) ≡ None
    by true = refl
    by false = refl

-- where the sets differ one of them is not empty, and its row has a mark
rows-marked : (x y : ℕ) (four six : Conns) → are_same_conns four six ≡ false → first_split_of (row_if (pair_key x y) (Some Four) four ++ row_if (pair_key x y) (Some Six) six) ≡ told x y
rows-marked x y four six differ = by (is_nothing four) (is_nothing six) refl refl
  where
    by : (no_four no_six : Bool) → is_nothing four ≡ no_four → is_nothing six ≡ no_six
        → first_split_of ((if no_four then [] else record { key = pair_key x y; family = Some Four; conns = four } ∷ []) ++
        (if no_six then [] else record { key = pair_key x y; family = Some Six; conns = six } ∷ [])) ≡ told x y
    by false no_six is is' = refl
    by true false is is' = refl
    by true true is is' = absurd (true≢false (sym ((are_same_conns-Decides four six).1 (nothing_is four is ∙ sym (nothing_is six is'))) ∙ differ))

same_itself : (conns : Conns) → are_same_conns conns conns ≡ true
same_itself conns = (are_same_conns-Decides conns conns).1 refl

same_back : (a b : Conns) → are_same_conns a b ≡ are_same_conns b a
same_back a b =
    elim (cases_Bool (are_same_conns b a)) [
      | inl is ↦ (are_same_conns-Decides a b).1 (sym ((are_same_conns-Decides b a).0 is)) ∙ sym is
      | inr is ↦ false_by (are_same_conns a b) (λ yes. true≢false (sym ((are_same_conns-Decides b a).1 (sym ((are_same_conns-Decides a b).0 yes))) ∙ is)) ∙ sym is
    ]
  where
    false_by : (b : Bool) → (b ≡ true → ⊥) → b ≡ false
    false_by true never = absurd (never refl)
    false_by false never = refl

-- two sets differ where the test says so
pub two_differ-two : (four six : Conns) → two_differ (four ∷ six ∷ []) ≡ not (are_same_conns four six)
two_differ-two four six = rw (same_itself four, same_itself six, same_back six four) (by (are_same_conns four six))
  where
    by : (b : Bool) → ((false || (not b || false)) || ((not b || (false || false)) || false)) ≡ not b
    by true = refl
    by false = refl

two_differ-one : (conns : Conns) → two_differ (conns ∷ []) ≡ false
two_differ-one conns = rw (same_itself conns) refl

-- ---- by the families of the list

pub families_cases : (pods : List Pod) → ((family : Family) × (families_of pods ≡ family ∷ [])) ⊎ (families_of pods ≡ Four ∷ Six ∷ [])
families_cases pods = by (has_family pods Four) (has_family pods Six) refl refl
  where
    by : (has_four has_six : Bool) → has_family pods Four ≡ has_four → has_family pods Six ≡ has_six → ((family : Family) × (families_of pods ≡ family ∷ [])) ⊎ (families_of pods ≡ Four ∷ Six ∷ [])
    by true true is is' = inr (rw (is, is') refl)
    by true false is is' = inl (Four, rw (is, is') refl)
    by false true is is' = inl (Six, rw (is, is') refl)
    by false false is is' = inl (Four, rw (is, is') refl)

-- one family has no marks, and nothing is split
one_family : (family : Family) (x y : ℕ) (sets : Family → Conns) (defined : Bool) →
    first_split_of (rows_in (family ∷ []) (pair_key x y) sets) ≡ (if defined && two_differ (map sets (family ∷ [])) then told x y else None)
one_family family x y sets defined =
    row_if-unmarked x y (sets family)
    ∙ sym (ap (λ (b : Bool). if b then told x y else None) (ap (λ (b : Bool). defined && b) (two_differ-one (sets family)) ∙ and-false defined))

-- of two families the rows have marks where the sets differ
two_families : (x y : ℕ) (sets : Family → Conns) (defined : Bool) → (defined ≡ false → sets Four ≡ sets Six) →
    first_split_of (rows_in (Four ∷ Six ∷ []) (pair_key x y) sets) ≡ (if defined && two_differ (map sets (Four ∷ Six ∷ [])) then told x y else None)
two_families x y sets defined alone =
    by defined (are_same_conns (sets Four) (sets Six)) refl refl
    ∙ sym (ap (λ (b : Bool). if defined && b then told x y else None) (two_differ-two (sets Four) (sets Six)))
  where
    by : (known same : Bool) → defined ≡ known → are_same_conns (sets Four) (sets Six) ≡ same
        → first_split_of (if same then row_if (pair_key x y) None (sets Four) else row_if (pair_key x y) (Some Four) (sets Four) ++ row_if (pair_key x y) (Some Six) (sets Six)) ≡
        (if known && not same then told x y else None)
    by true true is is' = row_if-unmarked x y (sets Four)
    by true false is is' = rows-marked x y (sets Four) (sets Six) is'
    by false true is is' = row_if-unmarked x y (sets Four)
    by false false is is' = absurd (true≢false (sym ((are_same_conns-Decides (sets Four) (sets Six)).1 (alone is)) ∙ is'))

-- nothing passes in either family where a workload of one pod meets itself
alone-same : (lists : EstateLists) (x y : ℕ) → is_defined lists x y ≡ false → set_in lists Four x y ≡ set_in lists Six x y
unfolding set_in
alone-same lists x y is =
    let alone = not-false (is_alone (folding_of lists) x y) is in
    conns_of-agrees _ _ (λ spot _. pair_allows-alone lists (folding_of lists) x y Four spot alone ∙ sym (pair_allows-alone lists (folding_of lists) x y Six spot alone))

pair-by : (lists : EstateLists) (x y : ℕ) (families : List Family) → ((family : Family) × (families ≡ family ∷ [])) ⊎ (families ≡ Four ∷ Six ∷ [])
    → first_split_of (rows_in families (pair_key x y) (λ family. set_in lists family x y)) ≡
    (if is_defined lists x y && two_differ (map (λ family. set_in lists family x y) families) then told x y else None)
pair-by lists x y families (inl one) =
    subst (λ (fs : List Family). first_split_of (rows_in fs (pair_key x y) (λ family. set_in lists family x y)) ≡
    (if is_defined lists x y && two_differ (map (λ family. set_in lists family x y) fs) then told x y else None))
    (sym one.1) (one_family one.0 x y (λ family. set_in lists family x y) (is_defined lists x y))
pair-by lists x y families (inr both) =
    subst (λ (fs : List Family). first_split_of (rows_in fs (pair_key x y) (λ family. set_in lists family x y)) ≡
    (if is_defined lists x y && two_differ (map (λ family. set_in lists family x y) fs) then told x y else None))
    (sym both) (two_families x y (λ family. set_in lists family x y) (is_defined lists x y) (alone-same lists x y))

-- of one family no pair is split
pub none_split : (lists : EstateLists) → length (families_of lists.pods) < 2 → first_pair (is_split lists) (number_of_workloads lists) ≡ None
none_split lists few = by (families_cases lists.pods)
  where
    by : ((family : Family) × (families_of lists.pods ≡ family ∷ [])) ⊎ (families_of lists.pods ≡ Four ∷ Six ∷ []) → first_pair (is_split lists) (number_of_workloads lists) ≡ None
    by (inr both) = absurd (omega (arith, few, ap length both))
    by (inl one) = first_pair-none (is_split lists) (number_of_workloads lists) (λ x y _ _.
        ap (λ (families : List Family). is_defined lists x y && two_differ (map (λ family. set_in lists family x y) families)) one.1
        ∙ ap (λ (differ : Bool). is_defined lists x y && differ) (two_differ-one (set_in lists one.0 x y))
        ∙ and-false (is_defined lists x y))

-- the rows of two workloads have a mark where they are split
pair-first : (lists : EstateLists) (x y : ℕ) → first_split_of (pair_rows (estate_table lists) x y) ≡ (if is_split lists x y then told x y else None)
unfolding pair_rows table_of set_in
pair-first lists x y = pair-by lists x y (families_of lists.pods) (families_cases lists.pods)

-- ---- all rows

towards-unmarked : (workload : ℕ) (direction : Direction) (rows : List AddressRow) → first_split_of (map (row_of workload direction) rows) ≡ None
towards-unmarked workload direction [] = refl
towards-unmarked workload Ingress (row ∷ rows) = towards-unmarked workload Ingress rows
towards-unmarked workload Egress (row ∷ rows) = towards-unmarked workload Egress rows

addresses-unmarked : (table : Table) → first_split_of (all_address_rows table) ≡ None
unfolding all_address_rows
addresses-unmarked table =
    flat_map-unmarked (λ workload. rows_towards table workload Ingress ++ rows_towards table workload Egress) (workloads table) (λ workload.
    first_split-append (rows_towards table workload Ingress) (rows_towards table workload Egress)
    ∙ ap (λ (o : Option (ℕ × ℕ)). option_or o (first_split_of (rows_towards table workload Egress))) (towards-unmarked workload Ingress (address_rows table workload Ingress))
    ∙ towards-unmarked workload Egress (address_rows table workload Egress))

or_none : (o : Option (ℕ × ℕ)) → option_or o None ≡ o
or_none None = refl
or_none (Some x) = refl

pairs-first : (lists : EstateLists) → first_split_of (all_pair_rows (estate_table lists)) ≡ first_pair (is_split lists) (length (estate_table lists).names)
unfolding all_pair_rows first_pair
pairs-first lists =
    flat_map-first (λ pair. is_split lists pair.0 pair.1) (λ x. flat_map (pair_rows (estate_table lists) x) (places (length (estate_table lists).names)))
    (λ x. map (λ y. (x, y)) (places (length (estate_table lists).names))) (places (length (estate_table lists).names))
    (λ x. map-first (λ pair. is_split lists pair.0 pair.1) (pair_rows (estate_table lists) x) (λ y. (x, y)) (places (length (estate_table lists).names)) (pair-first lists x))

names-count : (lists : EstateLists) → length (estate_table lists).names ≡ number_of_workloads lists
unfolding table_of
names-count lists = length-map (folding_of lists).workloads (λ (one : Workload). one.name)

-- the first row with a mark is that of the first pair that is split
pub rows-first : (lists : EstateLists) → first_split_of (all_rows (estate_table lists)) ≡ first_pair (is_split lists) (number_of_workloads lists)
rows-first lists =
    first_split-append (all_pair_rows (estate_table lists)) (all_address_rows (estate_table lists))
    ∙ ap (option_or (first_split_of (all_pair_rows (estate_table lists)))) (addresses-unmarked (estate_table lists))
    ∙ or_none (first_split_of (all_pair_rows (estate_table lists)))
    ∙ pairs-first lists
    ∙ ap (first_pair (is_split lists)) (names-count lists)

-- the first row with a mark is found where rows before it have none
pub found-first : (rows rest : List Row) (row : Row) (found : Option (ℕ × ℕ)) → rows ≡ row ∷ rest → found ≡ split_of row → is_some found ≡ true → found ≡ first_split_of rows
found-first rows rest row None same is some = let never : false ≡ true = some in absurd (cc)
found-first rows rest row (Some pair) same is some =
    sym (ap first_split_of same ∙ ap (λ (o : Option (ℕ × ℕ)). option_or o (first_split_of rest)) (sym is))

-- where no row is given none is left
pub none-left : (given : Option Row) (old new : List Row) → MatchOption given (old ≡ []) (λ row. old ≡ row ∷ new) → ((row : Row) → given ≡ Some row → ⊥) → old ≡ []
none-left None old new is none = is
none-left (Some row) old new is none = absurd (none row refl)
