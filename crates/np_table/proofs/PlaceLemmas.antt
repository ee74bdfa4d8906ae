-- The rows from place to place are all rows of a table. For `Rows::new`, `Rows::next` and 3 more.
use Rattle.std.proofs.Common.{◌≡◌, ℕ, zero, suc, ◌+◌, ◌-◌, ◌*◌, ◌/◌, ◌%◌, ◌<◌, ◌≤◌, List, [], ◌∷◌, ◌++◌, length, flat_map, reverse, Bool, true, false, nat_lt, refl, sym, ap, subst, ◌∙◌, arith, append_assoc, append-nil, if◌then◌else◌}
use Rattle.std.specs.List.{range_with_len}
use Rattle.std.proofs.lemmas.Bool.{lt-ltb, le-ltb}
use Rattle.std.proofs.lemmas.Grind.{flat_map-append}
use Rattle.std.proofs.lemmas.List.{length-map, reverse-reverse}
use Rattle.std.proofs.lemmas.Nat.{div-mul-add, mod-mul-add}
use Rattle.std.proofs.Math.Nat.{mul-le-mul_right}
use Rattle.np_table.specs.Prelude.{Egress, EstateLists, Ingress, Row, Table, address_rows_at, all_address_rows, all_pair_rows, all_rows, pair_count, pair_rows, pair_rows_at, place_count, rows_at, rows_from, rows_towards, table_of, workloads}
use Rattle.np_fold.specs.Prelude.{Folding}

-- ---- numbers in a row

pub range-append : (a m n : ℕ) → range_with_len a (m + n) ≡ range_with_len a m ++ range_with_len (a + m) n
range-append a zero n =
    ap (range_with_len a) (let same : zero + n ≡ n = omega arith in same)
    ∙ ap (λ (k : ℕ). range_with_len k n) (let same : a ≡ a + zero = omega arith in same)
range-append a (suc m) n =
    ap (range_with_len a) (let same : suc m + n ≡ suc (m + n) = omega arith in same)
    ∙ ap (λ (ks : List ℕ). a ∷ ks) (range-append (a + 1) m n)
    ∙ ap (λ (k : ℕ). a ∷ range_with_len (a + 1) m ++ range_with_len k n) (let same : a + 1 + m ≡ a + suc m = omega arith in same)

-- one number more
range-next : (f : ℕ → List Row) (a n : ℕ) → flat_map f (range_with_len a (n + 1)) ≡ flat_map f (range_with_len a n) ++ f (a + n)
range-next f a n =
    let rows : List ℕ → List Row = λ ks. flat_map f ks in
    ap rows (range-append a n 1)
    ∙ flat_map-append f (range_with_len a n) (range_with_len (a + n) 1)
    ∙ ap (λ (more : List Row). flat_map f (range_with_len a n) ++ more) (append-nil (f (a + n)))

range-split : (f : ℕ → List Row) (a m n : ℕ) → flat_map f (range_with_len a (m + n)) ≡ flat_map f (range_with_len a m) ++ flat_map f (range_with_len (a + m) n)
range-split f a m n =
    let rows : List ℕ → List Row = λ ks. flat_map f ks in
    ap rows (range-append a m n) ∙ flat_map-append f (range_with_len a m) (range_with_len (a + m) n)

-- functions that agree number by number
range-agree : (f g : ℕ → List Row) (a b n : ℕ) → ((k : ℕ) → k < n → f (a + k) ≡ g (b + k)) → flat_map f (range_with_len a n) ≡ flat_map g (range_with_len b n)
range-agree f g a b zero agree = refl
range-agree f g a b (suc n) agree =
    let rest : (k : ℕ) → k < n → f (a + 1 + k) ≡ g (b + 1 + k) = λ k below.
    ap f (let same : a + 1 + k ≡ a + (k + 1) = omega arith in same)
    ∙ agree (k + 1) (omega (arith, below))
    ∙ ap g (let same : b + (k + 1) ≡ b + 1 + k = omega arith in same) in
    let first : f a ≡ g b = ap f (let same : a ≡ a + zero = omega arith in same) ∙ agree zero (omega arith) ∙ ap g (let same : b + zero ≡ b = omega arith in same) in
    ap (λ (rows : List Row). rows ++ flat_map f (range_with_len (a + 1) n)) first
    ∙ ap (λ (rows : List Row). g b ++ rows) (range-agree f g (a + 1) (b + 1) n rest)

-- numbers taken by twos
by-twos : (f g : ℕ → List Row) (start : ℕ) → ((k : ℕ) → f (start + k * 2) ++ f (start + (k * 2 + 1)) ≡ g k) → (done : ℕ) →
    flat_map f (range_with_len start (done * 2)) ≡ flat_map g (range_with_len 0 done)
by-twos f g start two zero = ap (λ (n : ℕ). flat_map f (range_with_len start n)) (let none : zero * 2 ≡ zero = omega arith in none)
by-twos f g start two (suc done) =
    let so_far = flat_map f (range_with_len start (done * 2)) in
    let longer : suc done * 2 ≡ done * 2 + 1 + 1 = omega arith in
    ap (λ (n : ℕ). flat_map f (range_with_len start n)) longer
    ∙ range-next f start (done * 2 + 1)
    ∙ ap (λ (rows : List Row). rows ++ f (start + (done * 2 + 1))) (range-next f start (done * 2))
    ∙ append_assoc so_far (f (start + done * 2)) (f (start + (done * 2 + 1)))
    ∙ ap (λ (rows : List Row). so_far ++ rows) (two done)
    ∙ ap (λ (rows : List Row). rows ++ g done) (by-twos f g start two done)
    ∙ ap (λ (n : ℕ). flat_map g (range_with_len 0 done) ++ g n) (let same : done ≡ 0 + done = omega arith in same)
    ∙ sym (range-next g 0 done)
    ∙ ap (λ (n : ℕ). flat_map g (range_with_len 0 n)) (let same : done + 1 ≡ suc done = omega arith in same)

-- ---- pairs

module _ (table : Table) where
  abbrev pub count : ℕ
  count = length table.names

  -- the place of a destination among all pairs
  pair-at : (source destination : ℕ) → source < count → destination < count → rows_at table (source * count + destination) ≡ pair_rows table source destination
  unfolding rows_at pair_rows
  pair-at source destination low below =
      let place = source * count + destination in
      let more : (source + 1) * count ≤ count * count = mul-le-mul_right count (let up : source + 1 ≤ count = omega (arith, low) in up) in
      let is_pair : nat_lt place (pair_count count) ≡ true = lt-ltb place (count * count) (let up : place < count * count = omega (arith, more, below) in up) in
      ap (λ (b : Bool). if b then pair_rows_at table place else address_rows_at table (place - pair_count count)) is_pair
      ∙ ap (λ (s : ℕ). pair_rows table s (place % count)) (div-mul-add source count destination below)
      ∙ ap (pair_rows table source) (mod-mul-add source count destination below)

  pairs-from : (sources : ℕ) → sources ≤ count →
      flat_map (rows_at table) (range_with_len 0 (sources * count)) ≡ flat_map (λ source. flat_map (pair_rows table source) (workloads table)) (range_with_len 0 sources)
  pairs-from zero fits = ap (λ (n : ℕ). flat_map (rows_at table) (range_with_len 0 n)) (let none : zero * count ≡ zero = omega arith in none)
  pairs-from (suc sources) fits =
      let by_source : ℕ → List Row = λ source. flat_map (pair_rows table source) (workloads table) in
      let so_far = flat_map (rows_at table) (range_with_len 0 (sources * count)) in
      let longer : suc sources * count ≡ sources * count + count = omega arith in
      ap (λ (n : ℕ). flat_map (rows_at table) (range_with_len 0 n)) longer
      ∙ range-split (rows_at table) 0 (sources * count) count
      ∙ ap (λ (n : ℕ). so_far ++ flat_map (rows_at table) (range_with_len n count)) (let same : 0 + sources * count ≡ sources * count = omega arith in same)
      ∙ ap (λ (rows : List Row). so_far ++ rows) (range-agree (rows_at table) (pair_rows table sources) (sources * count) 0 count
      (λ k below. pair-at sources k (omega (arith, fits)) below ∙ ap (pair_rows table sources) (let same : k ≡ 0 + k = omega arith in same)))
      ∙ ap (λ (rows : List Row). rows ++ by_source sources) (pairs-from sources (omega (arith, fits)))
      ∙ ap (λ (n : ℕ). flat_map by_source (range_with_len 0 sources) ++ by_source n) (let same : sources ≡ 0 + sources = omega arith in same)
      ∙ sym (range-next by_source 0 sources)
      ∙ ap (λ (n : ℕ). flat_map by_source (range_with_len 0 n)) (let same : sources + 1 ≡ suc sources = omega arith in same)

  -- ---- addresses

  behind : (place : ℕ) → rows_at table (count * count + place) ≡ address_rows_at table place
  unfolding rows_at
  behind place =
      let at = count * count + place in
      let is_pair : nat_lt at (pair_count count) ≡ false = le-ltb at (count * count) (let up : count * count ≤ at = omega arith in up) in
      ap (λ (b : Bool). if b then pair_rows_at table at else address_rows_at table (at - pair_count count)) is_pair
      ∙ ap (address_rows_at table) (let same : at - pair_count count ≡ place = omega arith in same)

  ingress-at : (workload : ℕ) → address_rows_at table (workload * 2) ≡ rows_towards table workload Ingress
  ingress-at workload =
      rw (let half : workload * 2 / 2 ≡ workload = omega arith in half, let even : workload * 2 % 2 ≡ 0 = omega arith in even) refl

  egress-at : (workload : ℕ) → address_rows_at table (workload * 2 + 1) ≡ rows_towards table workload Egress
  egress-at workload =
      rw (div-mul-add workload 2 1 (omega arith), mod-mul-add workload 2 1 (omega arith)) refl

  two-at : (workload : ℕ) →
      rows_at table (count * count + workload * 2) ++ rows_at table (count * count + (workload * 2 + 1)) ≡ rows_towards table workload Ingress ++ rows_towards table workload Egress
  two-at workload =
      ap (λ (rows : List Row). rows ++ rows_at table (count * count + (workload * 2 + 1))) (behind (workload * 2) ∙ ingress-at workload)
      ∙ ap (λ (rows : List Row). rows_towards table workload Ingress ++ rows) (behind (workload * 2 + 1) ∙ egress-at workload)

  -- ---- all of them

  pub all_rows-from : rows_from table 0 ≡ all_rows table
  unfolding rows_from all_pair_rows all_address_rows
  all_rows-from =
      let same : place_count count - 0 ≡ count * count + count * 2 = omega arith in
      ap (λ (n : ℕ). flat_map (rows_at table) (range_with_len 0 n)) same
      ∙ range-split (rows_at table) 0 (count * count) (count * 2)
      ∙ ap (λ (n : ℕ). flat_map (rows_at table) (range_with_len 0 (count * count)) ++ flat_map (rows_at table) (range_with_len n (count * 2)))
      (let same : 0 + count * count ≡ count * count = omega arith in same)
      ∙ ap (λ (rows : List Row). rows ++ flat_map (rows_at table) (range_with_len (count * count) (count * 2))) (pairs-from count (omega arith))
      ∙ ap (λ (rows : List Row). all_pair_rows table ++ rows) (by-twos (rows_at table) (λ workload. rows_towards table workload Ingress ++ rows_towards table workload Egress)
      (count * count) two-at count)

  -- the rows at a place, and those from the next one on
  pub rows_from-next : (place : ℕ) → place < place_count count → rows_from table place ≡ rows_at table place ++ rows_from table (place + 1)
  unfolding rows_from
  rows_from-next place below =
      ap (λ (n : ℕ). flat_map (rows_at table) (range_with_len place n)) (let same : place_count count - place ≡ suc (place_count count - (place + 1)) = omega (arith, below) in same)

  -- behind the last place there are none
  pub rows_from-end : rows_from table (place_count count) ≡ []
  unfolding rows_from
  rows_from-end = ap (λ (n : ℕ). flat_map (rows_at table) (range_with_len (place_count count) n)) (let same : place_count count - place_count count ≡ zero = omega arith in same)

-- ---- the table of an estate

pub names-are : (lists : EstateLists) (folding : Folding) → length (table_of lists folding).names ≡ length folding.workloads
unfolding table_of
names-are lists folding = length-map folding.workloads (λ one. one.name)

-- the rows at a place, by the number of workloads
rows_by : Table → ℕ → ℕ → List Row
rows_by table place count = if nat_lt place (pair_count count) then pair_rows table (place / count) (place % count) else address_rows_at table (place - pair_count count)

rows_by-names : (table : Table) (place : ℕ) → rows_at table place ≡ rows_by table place (length table.names)
unfolding rows_at rows_by
rows_by-names table place = refl

pub rows_at-pair : (lists : EstateLists) (folding : Folding) (place count : ℕ) → count ≡ length folding.workloads → place < count * count →
    rows_at (table_of lists folding) place ≡ pair_rows (table_of lists folding) (place / count) (place % count)
unfolding rows_by
rows_at-pair lists folding place count is below =
    let table = table_of lists folding in
    rows_by-names table place
    ∙ ap (rows_by table place) (names-are lists folding ∙ sym is)
    ∙ ap (λ (b : Bool). if b then pair_rows table (place / count) (place % count) else address_rows_at table (place - pair_count count)) (lt-ltb place (pair_count count) below)

pub rows_at-address : (lists : EstateLists) (folding : Folding) (place count : ℕ) → count ≡ length folding.workloads → count * count ≤ place →
    rows_at (table_of lists folding) place ≡ address_rows_at (table_of lists folding) (place - count * count)
unfolding rows_by
rows_at-address lists folding place count is up =
    let table = table_of lists folding in
    rows_by-names table place
    ∙ ap (rows_by table place) (names-are lists folding ∙ sym is)
    ∙ ap (λ (b : Bool). if b then pair_rows table (place / count) (place % count) else address_rows_at table (place - pair_count count)) (le-ltb place (pair_count count) up)

-- ---- rows that are ready, and those from a place on

-- none are left behind the last place
pub nothing-left : (lists : EstateLists) (folding : Folding) (ready rows : List Row) (place end : ℕ) → length ready ≡ 0 → place ≡ end → end ≡ place_count (length folding.workloads) →
    reverse ready ++ rows_from (table_of lists folding) place ≡ rows → rows ≡ []
nothing-left lists folding [] rows place end empty at last to_come =
    sym to_come
    ∙ ap (rows_from (table_of lists folding)) (at ∙ last)
    ∙ ap (λ n. rows_from (table_of lists folding) (place_count n)) (sym (names-are lists folding))
    ∙ rows_from-end (table_of lists folding)
nothing-left lists folding (row ∷ ready) rows place end empty at last to_come = absurd (omega (arith, empty))

-- those at a place are made ready
pub made-ready : (lists : EstateLists) (folding : Folding) (ready more rows : List Row) (place : ℕ) → length ready ≡ 0 → place < place_count (length folding.workloads) →
    more ≡ reverse (rows_at (table_of lists folding) place) → reverse ready ++ rows_from (table_of lists folding) place ≡ rows → reverse more ++ rows_from (table_of lists folding) (place + 1) ≡ rows
made-ready lists folding [] more rows place empty below made to_come =
    let table = table_of lists folding in
    ap (λ (m : List Row). reverse m ++ rows_from table (place + 1)) made
    ∙ ap (λ (m : List Row). m ++ rows_from table (place + 1)) (reverse-reverse (rows_at table place))
    ∙ sym (rows_from-next table place (subst (λ (n : ℕ). place < place_count n) (sym (names-are lists folding)) below))
    ∙ to_come
made-ready lists folding (row ∷ ready) more rows place empty below made to_come = absurd (omega (arith, empty))

-- ---- places that are passed over

-- a pair without rows
pub rows_from-over : (lists : EstateLists) (folding : Folding) (source destination count : ℕ) → count ≡ length folding.workloads → source < count → destination < count →
    [] ≡ pair_rows (table_of lists folding) source destination →
    rows_from (table_of lists folding) (source * count + (destination + 1)) ≡ rows_from (table_of lists folding) (source * count + destination)
rows_from-over lists folding source destination count is low below none =
    let table = table_of lists folding in
    let place = source * count + destination in
    let more : (source + 1) * count ≤ count * count = mul-le-mul_right count (let up : source + 1 ≤ count = omega (arith, low) in up) in
    let up : place < count * count = omega (arith, more, below) in
    let within : place < place_count (length table.names) = subst (λ n. place < place_count n) (is ∙ sym (names-are lists folding)) (let all : place < place_count count = omega (arith, up) in all) in
    let here : rows_at table place ≡ [] =
    rows_at-pair lists folding place count is up
    ∙ ap (λ s. pair_rows table s (place % count)) (div-mul-add source count destination below)
    ∙ ap (pair_rows table source) (mod-mul-add source count destination below)
    ∙ sym none in
    ap (rows_from table) (let same : source * count + (destination + 1) ≡ place + 1 = omega arith in same)
    ∙ ap (λ rows. rows ++ rows_from table (place + 1)) (sym here)
    ∙ sym (rows_from-next table place within)

-- what is to come is what was, where nothing is ready
pub passed-over : (lists : EstateLists) (folding : Folding) (ready rows : List Row) (place later : ℕ) → rows_from (table_of lists folding) later ≡ rows_from (table_of lists folding) place →
    reverse ready ++ rows_from (table_of lists folding) place ≡ rows → reverse ready ++ rows_from (table_of lists folding) later ≡ rows
passed-over lists folding ready rows place later same to_come = ap (λ (more : List Row). reverse ready ++ more) same ∙ to_come
