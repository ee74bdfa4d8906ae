-- Rows of a list: those that pass a test, and their ends. For AddressRowLemmas, SaidLemmas and crates above.
use Rattle.std.proofs.Common.{◌≡◌, ◌≢◌, ◌<◌, ◌≤◌, ◌+◌, ℕ, zero, suc, List, [], ◌∷◌, ◌++◌, Bool, true, false, All, Option, None, Some, map, flat_map, append-nil, if◌then◌else◌, arith, refl, ap, ◌∙◌, inl, inr}
use Rattle.std.specs.Prelude.{filter}
use Rattle.std.specs.List.{range_with_len}
use Rattle.std.proofs.lemmas.Bool.{and_parts, cases_eq, eqb-true, false≢true}
use Rattle.std.proofs.lemmas.List.Elements.{All-append, All-cons, All-head, All-nil, All-tail, All-weaker, filter-append, filter_passes}
use Rattle.np_table.specs.Prelude.{Controller, Direction, Family, Four, Row, RowEnd, RowKey, Six, Span, Table, Work, is_between, is_nothing, is_of_address, is_workload, pair_key, pair_rows, row_if, rows_between, rows_in, rows_of_address, rows_of_both}
use Rattle.np_conns.specs.Prelude.{Conns, are_same_conns, conns_of}

-- ---- rows that pass a test

-- all rows or none of a list in which the test has one answer
pub filter-by : (test : Row → Bool) (answer : Bool) (rows : List Row) → All (λ (row : Row). test row ≡ answer) rows → filter test rows ≡ (if answer then rows else [])
filter-by test true [] alike = refl
filter-by test false [] alike = refl
filter-by test true (row ∷ rows) alike =
    rw (All-head (λ (one : Row). test one ≡ true) row rows alike) (ap (λ (more : List Row). row ∷ more) (filter-by test true rows (All-tail (λ (one : Row). test one ≡ true) row rows alike)))
filter-by test false (row ∷ rows) alike =
    rw (All-head (λ (one : Row). test one ≡ false) row rows alike) (filter-by test false rows (All-tail (λ (one : Row). test one ≡ false) row rows alike))

-- two tests may be asked in either order
pub filter-swap : (p q : Row → Bool) (rows : List Row) → filter p (filter q rows) ≡ filter q (filter p rows)
filter-swap p q [] = refl
filter-swap p q (row ∷ rows) = by (p row) (q row) refl refl (filter-swap p q rows)
  where
    by : (first second : Bool) → p row ≡ first → q row ≡ second → filter p (filter q rows) ≡ filter q (filter p rows) →
        filter p (if second then row ∷ filter q rows else filter q rows) ≡ filter q (if first then row ∷ filter p rows else filter p rows)
    by true true is is' rest = rw (is, is') (ap (λ (more : List Row). row ∷ more) rest)
    by true false is is' rest = rw is' rest
    by false true is is' rest = rw is rest
    by false false is is' rest = rest

pub filter-flat_map : (test : Row → Bool) (f : ℕ → List Row) (ks : List ℕ) → filter test (flat_map f ks) ≡ flat_map (λ k. filter test (f k)) ks
filter-flat_map test f [] = refl
filter-flat_map test f (k ∷ ks) = filter-append test (f k) (flat_map f ks) ∙ ap (λ (rows : List Row). filter test (f k) ++ rows) (filter-flat_map test f ks)

-- what is mapped passes where what it is made of does
pub filter-map : {X Y : Type 0} (test : Y → Bool) (own : X → Bool) (f : X → Y) (xs : List X) → ((x : X) → test (f x) ≡ own x) → filter test (map f xs) ≡ map f (filter own xs)
filter-map test own f [] same = refl
filter-map {X} {Y} test own f (x ∷ xs) same = by (own x) (same x) (filter-map test own f xs same)
  where
    by : (answer : Bool) → test (f x) ≡ answer → filter test (map f xs) ≡ map f (filter own xs) → filter test (f x ∷ map f xs) ≡ map f (if answer then x ∷ filter own xs else filter own xs)
    by true is rest = rw is (ap (λ (more : List Y). f x ∷ more) rest)
    by false is rest = rw is rest

pub filter-map_none : {X Y : Type 0} (test : Y → Bool) (f : X → Y) (xs : List X) → ((x : X) → test (f x) ≡ false) → filter test (map f xs) ≡ []
filter-map_none test f [] fails = refl
filter-map_none test f (x ∷ xs) fails = rw (fails x) (filter-map_none test f xs fails)

-- ---- rows by numbers

-- numbers of which none has a row
pub range-none : (f : ℕ → List Row) (a n : ℕ) → ((k : ℕ) → a ≤ k → f k ≡ []) → flat_map f (range_with_len a n) ≡ []
range-none f a zero none = refl
range-none f a (suc n) none =
    ap (λ (rows : List Row). rows ++ flat_map f (range_with_len (a + 1) n)) (none a (omega arith)) ∙ range-none f (a + 1) n (λ k above. none k (omega arith))

-- numbers of which one has rows
pub range-only : (f : ℕ → List Row) (a n at : ℕ) → a ≤ at → at < a + n → ((k : ℕ) → k ≢ at → f k ≡ []) → flat_map f (range_with_len a n) ≡ f at
range-only f a zero at low below none = absurd (omega arith)
range-only f a (suc n) at low below none =
    elim (cases_eq a at) [
      | inl here ↦
          ap (λ (rows : List Row). f a ++ rows) (range-none f (a + 1) n (λ k above. none k (λ same. omega arith)))
          ∙ append-nil (f a)
          ∙ ap f here
      | inr apart ↦
          ap (λ (rows : List Row). rows ++ flat_map f (range_with_len (a + 1) n)) (none a apart)
          ∙ range-only f (a + 1) n at (omega arith) (omega arith) none
    ]

-- ---- the ends of the rows of a pair

abbrev pub HasKey : RowKey → Row → Type 0
HasKey key row = row.key ≡ key

row_if-key : (key : RowKey) (mark : Option Family) (conns : Conns) → All (HasKey key) (row_if key mark conns)
row_if-key key mark conns = by (is_nothing conns)
  where
    by : (nothing : Bool) → All {X = Row} (HasKey key) (if nothing then [] else record { key = key; family = mark; conns = conns } ∷ [])
    by true = All-nil (HasKey key)
    by false = All-cons (HasKey key) (record { key = key; family = mark; conns = conns }) [] refl (All-nil (HasKey key))

rows_of_both-key : (key : RowKey) (four six : Conns) → All (HasKey key) (rows_of_both key four six)
rows_of_both-key key four six = by (are_same_conns four six)
  where
    by : (same : Bool) → All (HasKey key) (if same then row_if key None four else row_if key (Some Four) four ++ row_if key (Some Six) six)
    by true = row_if-key key None four
    by false =
        All-append (HasKey key) (row_if key (Some Four) four) (row_if key (Some Six) six)
        (row_if-key key (Some Four) four) (row_if-key key (Some Six) six)

rows_in-key : (families : List Family) (key : RowKey) (conns : Family → Conns) → All (HasKey key) (rows_in families key conns)
rows_in-key [] key conns = rows_of_both-key key (conns Four) (conns Six)
rows_in-key (family ∷ []) key conns = row_if-key key None (conns family)
rows_in-key (family ∷ next ∷ families) key conns = rows_of_both-key key (conns Four) (conns Six)

-- the rows of a pair are between its workloads
pub pair_rows-key : (table : Table) (source destination : ℕ) → All (HasKey (pair_key source destination)) (pair_rows table source destination)
unfolding pair_rows
pair_rows-key table source destination = rows_in-key table.families (pair_key source destination) (λ family. conns_of (table.pairs source destination family))

-- ---- rows of which a test of their ends keeps some

pub is_workload-end : (number : ℕ) (end : RowEnd) → is_workload number end ≡ true → end ≡ Work number
is_workload-end number (Work other) is = ap (λ (n : ℕ). Work n) (eqb-true other number is)
is_workload-end number (Span addresses) is = absurd (false≢true is)
is_workload-end number Controller is = absurd (false≢true is)

is_between-key : (source destination : ℕ) (row : Row) → is_between source destination row ≡ true → row.key ≡ pair_key source destination
is_between-key source destination row is =
    let ends = and_parts (is_workload source row.key.source) (is_workload destination row.key.destination) is in
    let from : RowEnd → RowKey = λ end. record { source = end; destination = row.key.destination } in
    let to : RowEnd → RowKey = λ end. record { source = Work source; destination = end } in
    ap from (is_workload-end source row.key.source ends.0) ∙ ap to (is_workload-end destination row.key.destination ends.1)

-- it keeps all rows between two workloads, or none
pub rows_between-kept : (source destination : ℕ) (keep : RowKey → Bool) (rows : List Row) →
    rows_between source destination (filter (λ (row : Row). keep row.key) rows) ≡ (if keep (pair_key source destination) then rows_between source destination rows else [])
rows_between-kept source destination keep rows =
    filter-swap (is_between source destination) (λ (row : Row). keep row.key) rows
    ∙ filter-by (λ (row : Row). keep row.key) (keep (pair_key source destination)) (rows_between source destination rows)
    (All-weaker (λ (row : Row). is_between source destination row ≡ true) (λ (row : Row). keep row.key ≡ keep (pair_key source destination))
    (λ row is. ap keep (is_between-key source destination row is)) (rows_between source destination rows) (filter_passes (is_between source destination) rows))

-- and the one row of an address, or none
pub rows_of_address-kept : (workload : ℕ) (direction : Direction) (family : Family) (number : ℕ) (keep : RowKey → Bool) (rows : List Row) (row : Row) →
    rows_of_address workload direction family number rows ≡ row ∷ [] →
    rows_of_address workload direction family number (filter (λ (one : Row). keep one.key) rows) ≡ (if keep row.key then row ∷ [] else [])
rows_of_address-kept workload direction family number keep rows row only =
    filter-swap (is_of_address workload direction family number) (λ (one : Row). keep one.key) rows
    ∙ ap (λ (found : List Row). filter (λ (one : Row). keep one.key) found) only
