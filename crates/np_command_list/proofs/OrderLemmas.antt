-- The rows of a cluster stand in order. For PromiseLemmas.
use Rattle.std.proofs.Common.{◌≡◌, ◌<◌, ◌≤◌, ◌+◌, ◌-◌, ◌^◌, ℕ, zero, suc, List, [], ◌∷◌, ◌++◌, map, length, get_or, Bool, true, false, All, AllPairs, Option, None, Some, if◌then◌else◌, append_assoc, arith, refl, ap, ◌∙◌}
use Rattle.std.specs.List.{flat_map, range_with_len}
use Rattle.std.specs.Cmp.{nat_cmp_total, tied_itself}
use Rattle.std.specs.Cmp.Lexicographic.{slice_cmp}
use Rattle.std.specs.Ordering.{nat_cmp, ordering_then}
use Rattle.std.specs.declared.cmp.Ordering.{Ordering}
use Rattle.std.specs.declared.cmp.Ordering.TheVariants.{Less}
use Rattle.std.proofs.lemmas.Bool.{lt-ltb}
use Rattle.std.proofs.lemmas.List.Elements.{All-append, All-cons, All-head, All-map, All-nil, All-tail, All-weaker}
use Rattle.std.proofs.lemmas.List.Kept.{AllPairs-cons}
use Rattle.np_command_list.specs.Prelude.{AddressRow, ComesBefore, Direction, Egress, Family, Four, Ingress, PortSpot, Row, RowKey, Six, mark_rank, row_rank, row_rank_of, span_rank}
use Rattle.np_conns.specs.Prelude.{Conns, are_same_conns, conns_of}
use Rattle.np_routes.specs.Prelude.{ClusterTable, all_ingress_rows, cluster_rows, ingress_key, ingress_row}
use Rattle.np_table.proofs.RangeWalks.{walk-right}
use Rattle.np_table.proofs.RowLemmas.{HasKey, pair_rows-key}
use Rattle.np_table.specs.Prelude.{AreRight, Stretch, Table, address_row, address_rows, all_address_rows, all_pair_rows, all_rows, four_of, is_nothing, pair_key, pair_rows, row_if, row_of, rows_in, rows_of_addresses, rows_of_both, rows_towards, six_of, walk, workloads}

-- ---- pairs of a list

module _ {X : Type 0} (R : X → X → Type 0) where
  -- each of one list and each later one, where each of the first stands so to each of the second
  pub AllPairs-append : (xs ys : List X) → AllPairs R xs → AllPairs R ys → All (λ x. All (R x) ys) xs → AllPairs R (xs ++ ys)
  AllPairs-append [] ys first second between = second
  AllPairs-append (x ∷ xs) ys first second between =
      AllPairs-cons R x (xs ++ ys)
      (All-append (R x) xs ys (λ k d within. first zero (suc k) d (omega arith) (omega arith)) (All-head (λ (one : X). All (R one) ys) x xs between))
      (AllPairs-append xs ys (λ i j d below within. first (suc i) (suc j) d (omega arith) (omega arith)) second (All-tail (λ (one : X). All (R one) ys) x xs between))

  -- pairs that stand so also stand as what follows from that
  AllPairs-weaker : (S : X → X → Type 0) → ((x y : X) → R x y → S x y) → (xs : List X) → AllPairs R xs → AllPairs S xs
  AllPairs-weaker S each xs pairs = λ i j d below within. each (get_or xs i d) (get_or xs j d) (pairs i j d below within)

  AllPairs-map : {Y : Type 0} (f : Y → X) (ys : List Y) → AllPairs (λ a b. R (f a) (f b)) ys → AllPairs R (map f ys)
  AllPairs-map f [] ordered = λ i j d below within. absurd (omega arith)
  AllPairs-map f (y ∷ ys) ordered =
      AllPairs-cons R (f y) (map f ys) (All-map (R (f y)) f ys (λ k d within. ordered zero (suc k) d (omega arith) (omega arith)))
      (AllPairs-map f ys (λ i j d below within. ordered (suc i) (suc j) d (omega arith) (omega arith)))

-- what holds of all there are
All-every : {X : Type 0} (P : X → Type 0) (xs : List X) → ((x : X) → P x) → All P xs
All-every P xs each = λ k d within. each (get_or xs k d)

-- ---- ranks

-- ranks with one front are ordered as the numbers behind it
before-at : (front : List ℕ) (low high : ℕ) (rest more : List ℕ) → low < high → slice_cmp nat_cmp (front ++ low ∷ rest) (front ++ high ∷ more) ≡ Less
before-at [] low high rest more lower = rw (lt-ltb low high lower) refl
before-at (n ∷ front) low high rest more lower =
    ap (λ (order : Ordering). ordering_then order (slice_cmp nat_cmp (front ++ low ∷ rest) (front ++ high ∷ more))) (tied_itself nat_cmp_total n) ∙ before-at front low high rest more lower

-- the rank of a row begins with these numbers
abbrev Begins : List ℕ → Row → Type 0
Begins front row = (rest : List ℕ) × (row_rank row ≡ front ++ rest)

begins-shorter : (front : List ℕ) (n : ℕ) (row : Row) → Begins (front ++ n ∷ []) row → Begins front row
begins-shorter front n row has = (n ∷ has.0, has.1 ∙ append_assoc front (n ∷ []) has.0)

before-begins : (front : List ℕ) (low high : ℕ) (row next : Row) → low < high → Begins (front ++ low ∷ []) row → Begins (front ++ high ∷ []) next → ComesBefore row next
before-begins front low high row next lower has has' =
    ap (λ (rank : List ℕ). slice_cmp nat_cmp rank (row_rank next)) (has.1 ∙ append_assoc front (low ∷ []) has.0)
    ∙ ap (λ (rank : List ℕ). slice_cmp nat_cmp (front ++ low ∷ has.0) rank) (has'.1 ∙ append_assoc front (high ∷ []) has'.0)
    ∙ before-at front low high has.0 has'.0 lower

-- ---- rows by numbers

-- each of some rows comes before each of others
all-before : (front : List ℕ) (low high : ℕ) (xs ys : List Row) → low < high → All (Begins (front ++ low ∷ [])) xs → All (Begins (front ++ high ∷ [])) ys → All (λ row. All (ComesBefore row) ys) xs
all-before front low high xs ys lower begins begins' =
    All-weaker (Begins (front ++ low ∷ [])) (λ row. All (ComesBefore row) ys)
    (λ row has. All-weaker (Begins (front ++ high ∷ [])) (ComesBefore row) (λ next has'. before-begins front low high row next lower has has') ys begins') xs begins

ordered-both : (front : List ℕ) (low high : ℕ) (xs ys : List Row) → low < high → All (Begins (front ++ low ∷ [])) xs → All (Begins (front ++ high ∷ [])) ys →
    AllPairs ComesBefore xs → AllPairs ComesBefore ys → AllPairs ComesBefore (xs ++ ys)
ordered-both front low high xs ys lower begins begins' first second =
    AllPairs-append ComesBefore xs ys first second (all-before front low high xs ys lower begins begins')

-- the number behind the front is not below another
abbrev IsFrom : List ℕ → ℕ → Row → Type 0
IsFrom front from row = (n : ℕ) × (from ≤ n) × Begins (front ++ n ∷ []) row

module _ (front : List ℕ) (f : ℕ → List Row) (begins : (k : ℕ) → All (Begins (front ++ k ∷ [])) (f k)) where
  from-flat : (from count : ℕ) → All (IsFrom front from) (flat_map f (range_with_len from count))
  from-flat from zero = All-nil (IsFrom front from)
  from-flat from (suc count) =
      All-append (IsFrom front from) (f from) (flat_map f (range_with_len (from + 1) count))
      (All-weaker (Begins (front ++ from ∷ [])) (IsFrom front from) (λ row has. (from, omega arith, has)) (f from) (begins from))
      (All-weaker (IsFrom front (from + 1)) (IsFrom front from) (λ row has. (has.0, omega (arith, has.1), has.2)) (flat_map f (range_with_len (from + 1) count)) (from-flat (from + 1) count))

  begins-flat : (from count : ℕ) → All (Begins front) (flat_map f (range_with_len from count))
  begins-flat from count = All-weaker (IsFrom front from) (Begins front) (λ row has. begins-shorter front has.0 row has.2) (flat_map f (range_with_len from count)) (from-flat from count)

  ordered-flat : ((k : ℕ) → AllPairs ComesBefore (f k)) → (from count : ℕ) → AllPairs ComesBefore (flat_map f (range_with_len from count))
  ordered-flat ordered from zero = λ i j d below within. absurd (omega arith)
  ordered-flat ordered from (suc count) =
      AllPairs-append ComesBefore (f from) (flat_map f (range_with_len (from + 1) count)) (ordered from) (ordered-flat ordered (from + 1) count)
      (All-weaker (Begins (front ++ from ∷ [])) (λ row. All (ComesBefore row) (flat_map f (range_with_len (from + 1) count)))
      (λ row has. All-weaker (IsFrom front (from + 1)) (ComesBefore row) (λ next later. before-begins front from later.0 row next (omega (arith, later.1)) has later.2)
      (flat_map f (range_with_len (from + 1) count)) (from-flat (from + 1) count))
      (f from) (begins from))

-- ---- pair rows

row_if-ordered : (key : RowKey) (mark : Option Family) (conns : Conns) → AllPairs ComesBefore (row_if key mark conns)
row_if-ordered key mark conns = by (is_nothing conns)
  where
    by : (nothing : Bool) → AllPairs {X = Row} ComesBefore (if nothing then [] else record { key = key; family = mark; conns = conns } ∷ [])
    by true = λ i j d below within. absurd (omega arith)
    by false = λ i j d below within. absurd (omega arith)

row_if-begins : (front rest : List ℕ) (key : RowKey) (mark : Option Family) (conns : Conns) → row_rank_of key.source key.destination mark ≡ front ++ rest → All (Begins front) (row_if key mark conns)
row_if-begins front rest key mark conns is = by (is_nothing conns)
  where
    by : (nothing : Bool) → All {X = Row} (Begins front) (if nothing then [] else record { key = key; family = mark; conns = conns } ∷ [])
    by true = All-nil (Begins front)
    by false = All-cons (Begins front) (record { key = key; family = mark; conns = conns }) [] (rest, is) (All-nil (Begins front))

both-ordered : (source destination : ℕ) (four six : Conns) → AllPairs ComesBefore (rows_of_both (pair_key source destination) four six)
both-ordered source destination four six = by (are_same_conns four six)
  where
    key : RowKey
    key = pair_key source destination

    front : List ℕ
    front = 0 ∷ source ∷ destination ∷ []

    by : (same : Bool) → AllPairs ComesBefore (if same then row_if key None four else row_if key (Some Four) four ++ row_if key (Some Six) six)
    by true = row_if-ordered key None four
    by false =
        ordered-both front 1 2 (row_if key (Some Four) four) (row_if key (Some Six) six) (omega arith)
        (row_if-begins (front ++ 1 ∷ []) [] key (Some Four) four refl) (row_if-begins (front ++ 2 ∷ []) [] key (Some Six) six refl)
        (row_if-ordered key (Some Four) four) (row_if-ordered key (Some Six) six)

families-ordered : (families : List Family) (source destination : ℕ) (conns : Family → Conns) → AllPairs ComesBefore (rows_in families (pair_key source destination) conns)
families-ordered [] source destination conns = both-ordered source destination (conns Four) (conns Six)
families-ordered (one ∷ []) source destination conns = row_if-ordered (pair_key source destination) None (conns one)
families-ordered (one ∷ other ∷ families) source destination conns = both-ordered source destination (conns Four) (conns Six)

pair-ordered : (table : Table) (source destination : ℕ) → AllPairs ComesBefore (pair_rows table source destination)
unfolding pair_rows
pair-ordered table source destination = families-ordered table.families source destination (λ family. conns_of (table.pairs source destination family))

pair-begins : (table : Table) (source destination : ℕ) → All (Begins (0 ∷ source ∷ destination ∷ [])) (pair_rows table source destination)
pair-begins table source destination =
    All-weaker (HasKey (pair_key source destination)) (Begins (0 ∷ source ∷ destination ∷ []))
    (λ row has. (mark_rank row.family ∷ [], ap (λ (key : RowKey). row_rank_of key.source key.destination row.family) has))
    (pair_rows table source destination) (pair_rows-key table source destination)

source-begins : (table : Table) (source : ℕ) → All (Begins (0 ∷ source ∷ [])) (flat_map (pair_rows table source) (workloads table))
source-begins table source = begins-flat (0 ∷ source ∷ []) (pair_rows table source) (pair-begins table source) 0 (length table.names)

source-ordered : (table : Table) (source : ℕ) → AllPairs ComesBefore (flat_map (pair_rows table source) (workloads table))
source-ordered table source = ordered-flat (0 ∷ source ∷ []) (pair_rows table source) (pair-begins table source) (pair-ordered table source) 0 (length table.names)

pairs-begin : (table : Table) → All (Begins (0 ∷ [])) (all_pair_rows table)
unfolding all_pair_rows
pairs-begin table = begins-flat (0 ∷ []) (λ source. flat_map (pair_rows table source) (workloads table)) (source-begins table) 0 (length table.names)

pairs-ordered : (table : Table) → AllPairs ComesBefore (all_pair_rows table)
unfolding all_pair_rows
pairs-ordered table = ordered-flat (0 ∷ []) (λ source. flat_map (pair_rows table source) (workloads table)) (source-begins table) (source-ordered table) 0 (length table.names)

-- ---- address rows

-- the first numbers of a right list ascend
right-above : (passes : ℕ → PortSpot → Bool) (from to : ℕ) (before : Option Conns) (stretches : List Stretch) → AreRight passes from to before stretches → All (λ stretch. from ≤ stretch.lo) stretches
right-above passes from to before [] right = All-nil (λ (stretch : Stretch). from ≤ stretch.lo)
right-above passes from to before (stretch ∷ stretches) right =
    let start = right.0.start in
    let filled = right.0.filled in
    All-cons (λ (one : Stretch). from ≤ one.lo) stretch stretches (omega (arith, start))
    (All-weaker (λ (one : Stretch). stretch.hi + 1 ≤ one.lo) (λ (one : Stretch). from ≤ one.lo) (λ one above. omega (arith, above, start, filled)) stretches
    (right-above passes (stretch.hi + 1) to (Some stretch.conns) stretches right.1))

right-ascends : (passes : ℕ → PortSpot → Bool) (from to : ℕ) (before : Option Conns) (stretches : List Stretch) → AreRight passes from to before stretches → AllPairs
    (λ one other. one.lo < other.lo) stretches
right-ascends passes from to before [] right = λ i j d below within. absurd (omega arith)
right-ascends passes from to before (stretch ∷ stretches) right =
    let filled = right.0.filled in
    AllPairs-cons (λ (one other : Stretch). one.lo < other.lo) stretch stretches
    (All-weaker (λ (one : Stretch). stretch.hi + 1 ≤ one.lo) (λ (one : Stretch). stretch.lo < one.lo) (λ one above. omega (arith, above, filled)) stretches
    (right-above passes (stretch.hi + 1) to (Some stretch.conns) stretches right.1))
    (right-ascends passes (stretch.hi + 1) to (Some stretch.conns) stretches right.1)

walk-ascends : (passes : ℕ → PortSpot → Bool) (high : ℕ) → AllPairs (λ one other. one.lo < other.lo) (walk passes 0 high)
walk-ascends passes high = right-ascends passes 0 (high + 1) None (walk passes 0 high) (walk-right passes 0 high (omega arith))

direction_rank : Direction → ℕ
direction_rank Ingress = 0
direction_rank Egress = 1

-- the rank of an address row of a workload and a direction
row_of-rank : (workload : ℕ) (direction : Direction) (row : AddressRow) → row_rank (row_of workload direction row) ≡ 1 ∷ workload ∷ direction_rank direction ∷ span_rank row.span
unfolding direction_rank
row_of-rank workload Ingress row = refl
row_of-rank workload Egress row = refl

module _ (workload : ℕ) (direction : Direction) where
  abbrev front_of : List ℕ
  front_of = 1 ∷ workload ∷ direction_rank direction ∷ []

  -- one address row comes before another
  abbrev IsBefore : AddressRow → AddressRow → Type 0
  IsBefore row next = ComesBefore (row_of workload direction row) (row_of workload direction next)

  by-ranks : (row next : AddressRow) → slice_cmp nat_cmp (front_of ++ span_rank row.span) (front_of ++ span_rank next.span) ≡ Less → IsBefore row next
  by-ranks row next before =
      ap (λ (rank : List ℕ). slice_cmp nat_cmp rank (row_rank (row_of workload direction next))) (row_of-rank workload direction row)
      ∙ ap (λ (rank : List ℕ). slice_cmp nat_cmp (front_of ++ span_rank row.span) rank) (row_of-rank workload direction next) ∙ before

  fours-ordered : (stretches : List Stretch) → AllPairs (λ one other. one.lo < other.lo) stretches → AllPairs IsBefore (map (address_row four_of) stretches)
  fours-ordered stretches ascend =
      AllPairs-map IsBefore (address_row four_of) stretches
      (AllPairs-weaker (λ (one other : Stretch). one.lo < other.lo) (λ one other. IsBefore (address_row four_of one) (address_row four_of other))
      (λ one other lower. by-ranks (address_row four_of one) (address_row four_of other) (before-at (front_of ++ 0 ∷ []) one.lo other.lo [] [] lower)) stretches ascend)

  sixes-ordered : (stretches : List Stretch) → AllPairs (λ one other. one.lo < other.lo) stretches → AllPairs IsBefore (map (address_row six_of) stretches)
  sixes-ordered stretches ascend =
      AllPairs-map IsBefore (address_row six_of) stretches
      (AllPairs-weaker (λ (one other : Stretch). one.lo < other.lo) (λ one other. IsBefore (address_row six_of one) (address_row six_of other))
      (λ one other lower. by-ranks (address_row six_of one) (address_row six_of other) (before-at (front_of ++ 1 ∷ []) one.lo other.lo [] [] lower)) stretches ascend)

  families-apart : (fours sixes : List Stretch) → All (λ row. All (IsBefore row) (map (address_row six_of) sixes)) (map (address_row four_of) fours)
  families-apart fours sixes =
      All-map (λ (row : AddressRow). All (IsBefore row) (map (address_row six_of) sixes)) (address_row four_of) fours
      (All-every (λ (four : Stretch). All (IsBefore (address_row four_of four)) (map (address_row six_of) sixes)) fours (λ four.
      All-map (IsBefore (address_row four_of four)) (address_row six_of) sixes
      (All-every (λ (six : Stretch). IsBefore (address_row four_of four) (address_row six_of six)) sixes (λ six.
      by-ranks (address_row four_of four) (address_row six_of six) (before-at front_of 0 1 (four.lo ∷ []) (six.lo ∷ []) (omega arith))))))

  addresses-ordered : (passes : Family → ℕ → PortSpot → Bool) → AllPairs IsBefore (rows_of_addresses passes)
  addresses-ordered passes =
      let fours = walk (passes Four) 0 (2 ^ 32 - 1) in
      let sixes = walk (passes Six) 0 (2 ^ 128 - 1) in
      AllPairs-append IsBefore (map (address_row four_of) fours) (map (address_row six_of) sixes) (fours-ordered fours (walk-ascends (passes Four) (2 ^ 32 - 1)))
      (sixes-ordered sixes (walk-ascends (passes Six) (2 ^ 128 - 1))) (families-apart fours sixes)

  towards-ordered : (table : Table) → AllPairs ComesBefore (rows_towards table workload direction)
  unfolding address_rows
  towards-ordered table = AllPairs-map ComesBefore (row_of workload direction) (rows_of_addresses (table.addresses workload direction)) (addresses-ordered (table.addresses workload direction))

  towards-begins : (table : Table) → All (Begins front_of) (rows_towards table workload direction)
  towards-begins table =
      All-map (Begins front_of) (row_of workload direction) (address_rows table workload direction)
      (All-every (λ (row : AddressRow). Begins front_of (row_of workload direction row)) (address_rows table workload direction) (λ row. (span_rank row.span, row_of-rank workload direction row)))

module _ (table : Table) where
  abbrev of_workload : ℕ → List Row
  of_workload workload = rows_towards table workload Ingress ++ rows_towards table workload Egress

  ingress-begins : (workload : ℕ) → All (Begins (1 ∷ workload ∷ 0 ∷ [])) (rows_towards table workload Ingress)
  unfolding direction_rank
  ingress-begins workload = towards-begins workload Ingress table

  egress-begins : (workload : ℕ) → All (Begins (1 ∷ workload ∷ 1 ∷ [])) (rows_towards table workload Egress)
  unfolding direction_rank
  egress-begins workload = towards-begins workload Egress table

  workload-begins : (workload : ℕ) → All (Begins (1 ∷ workload ∷ [])) (of_workload workload)
  workload-begins workload =
      let front = 1 ∷ workload ∷ [] in
      All-append (Begins front) (rows_towards table workload Ingress) (rows_towards table workload Egress)
      (All-weaker (Begins (front ++ 0 ∷ [])) (Begins front) (begins-shorter front 0) (rows_towards table workload Ingress) (ingress-begins workload))
      (All-weaker (Begins (front ++ 1 ∷ [])) (Begins front) (begins-shorter front 1) (rows_towards table workload Egress) (egress-begins workload))

  workload-ordered : (workload : ℕ) → AllPairs ComesBefore (of_workload workload)
  workload-ordered workload =
      ordered-both (1 ∷ workload ∷ []) 0 1 (rows_towards table workload Ingress) (rows_towards table workload Egress) (omega arith)
      (ingress-begins workload) (egress-begins workload) (towards-ordered workload Ingress table) (towards-ordered workload Egress table)

  addresses-begin : All (Begins (1 ∷ [])) (all_address_rows table)
  unfolding all_address_rows
  addresses-begin = begins-flat (1 ∷ []) of_workload workload-begins 0 (length table.names)

  all_addresses-ordered : AllPairs ComesBefore (all_address_rows table)
  unfolding all_address_rows
  all_addresses-ordered = ordered-flat (1 ∷ []) of_workload workload-begins workload-ordered 0 (length table.names)

  all_rows-ordered : AllPairs ComesBefore (all_rows table)
  all_rows-ordered = ordered-both [] 0 1 (all_pair_rows table) (all_address_rows table) (omega arith) (pairs-begin table) addresses-begin (pairs-ordered table) all_addresses-ordered

-- ---- with the rows from the controller

module _ (cluster : ClusterTable) where
  ingress_row-begins : (workload : ℕ) → All (Begins (2 ∷ workload ∷ [])) (ingress_row cluster workload)
  unfolding ingress_row
  ingress_row-begins workload = row_if-begins (2 ∷ workload ∷ []) [] (ingress_key workload) None (conns_of (cluster.ingresses workload)) refl

  ingress_row-ordered : (workload : ℕ) → AllPairs ComesBefore (ingress_row cluster workload)
  unfolding ingress_row
  ingress_row-ordered workload = row_if-ordered (ingress_key workload) None (conns_of (cluster.ingresses workload))

  ingresses-begin : All (Begins (2 ∷ [])) (all_ingress_rows cluster)
  unfolding all_ingress_rows
  ingresses-begin = begins-flat (2 ∷ []) (ingress_row cluster) ingress_row-begins 0 (length cluster.table.names)

  ingresses-ordered : AllPairs ComesBefore (all_ingress_rows cluster)
  unfolding all_ingress_rows
  ingresses-ordered = ordered-flat (2 ∷ []) (ingress_row cluster) ingress_row-begins ingress_row-ordered 0 (length cluster.table.names)

  pub cluster-ordered : AllPairs ComesBefore (cluster_rows cluster)
  cluster-ordered =
      AllPairs-append ComesBefore (all_rows cluster.table) (all_ingress_rows cluster) (all_rows-ordered cluster.table) ingresses-ordered
      (All-append (λ (row : Row). All (ComesBefore row) (all_ingress_rows cluster)) (all_pair_rows cluster.table) (all_address_rows cluster.table)
      (all-before [] 0 2 (all_pair_rows cluster.table) (all_ingress_rows cluster) (omega arith) (pairs-begin cluster.table) ingresses-begin)
      (all-before [] 1 2 (all_address_rows cluster.table) (all_ingress_rows cluster) (omega arith) (addresses-begin cluster.table) ingresses-begin))
