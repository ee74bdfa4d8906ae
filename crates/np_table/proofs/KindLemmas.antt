-- Rows of destinations of one kind, and what is kept of them. For `Rows::new`, `pair_rows` and 3 more.
use Rattle.std.proofs.Common.{◌≡◌, ◌≢◌, ◌<◌, ◌≤◌, ◌+◌, ◌*◌, ◌-◌, ◌/◌, ◌%◌, ℕ, zero, suc, List, [], ◌∷◌, ◌++◌, Bool, true, false, Option, Some, None, length, map, max, slice_index, arith, refl, sym, ap, subst, ◌∙◌, inl, inr, if◌then◌else◌}
use Rattle.std.specs.Option.{option_map}
use Rattle.std.proofs.Math.Nat.{mul-le-mul_left}
use Rattle.std.proofs.lemmas.Bool.Decides.{eqb_tells}
use Rattle.np_table.specs.Prelude.{CachedConns, CachesAlso, CachesTheSame, Direction, Egress, EstateLists, Family, Four, Ingress, IsCached, PortSpot, Row, RowKey, Sctp, Six, Tcp, Udp, cached_at, cached_count, cached_of, is_nothing, most_rules, pair_key, pair_rows, row_if, row_with, rows_in, rows_of_both, rules_of, table_of}
use Rattle.np_conns.specs.Prelude.{Conns, are_same_conns, conns_of, has_spot}
use Rattle.np_model.specs.Prelude.{IsLawful}
use Rattle.np_fold.specs.Prelude.{Folding, folding_of}
use Rattle.np_conns.proofs.ConnLemmas.{conns_of-agrees, conns_of-has_spot}
use Rattle.np_table.proofs.DueLemmas.{greatest-at, same_source, source-behind}
use Rattle.np_table.proofs.KeptLemmas.{cached_count-below}
use Rattle.np_kinds.proofs.KindNumbers.{kinds-by}
use Rattle.np_kinds.proofs.PairLemmas.{pair_allows-alone, pair_allows-kinds}
use Rattle.np_kinds.specs.Prelude.{is_alone, pair_allows}

-- ---- rows with other ends

-- the rows with what these have besides their ends
abbrev with_ends : RowKey → List Row → List Row
with_ends key rows = map (row_with key) (map cached_of rows)

with_ends-append : (key : RowKey) (xs ys : List Row) → with_ends key (xs ++ ys) ≡ with_ends key xs ++ with_ends key ys
with_ends-append key [] ys = refl
with_ends-append key (x ∷ xs) ys = ap (λ (rows : List Row). row_with key (cached_of x) ∷ rows) (with_ends-append key xs ys)

with_ends-if : (key key' : RowKey) (family : Option Family) (conns : Conns) (none : Bool) →
    with_ends key' (if none then [] else record { key = key; family = family; conns = conns } ∷ []) ≡ (if none then [] else record { key = key'; family = family; conns = conns } ∷ [])
with_ends-if key key' family conns true = refl
with_ends-if key key' family conns false = refl

with_ends-row_if : (key key' : RowKey) (family : Option Family) (conns : Conns) → with_ends key' (row_if key family conns) ≡ row_if key' family conns
with_ends-row_if key key' family conns = with_ends-if key key' family conns (is_nothing conns)

with_ends-both : (key key' : RowKey) (four six : Conns) (same : Bool) →
    with_ends key' (if same then row_if key None four else row_if key (Some Four) four ++ row_if key (Some Six) six) ≡
    (if same then row_if key' None four else row_if key' (Some Four) four ++ row_if key' (Some Six) six)
with_ends-both key key' four six true = with_ends-row_if key key' None four
with_ends-both key key' four six false =
    with_ends-append key' (row_if key (Some Four) four) (row_if key (Some Six) six)
    ∙ ap (λ (rows : List Row). rows ++ with_ends key' (row_if key (Some Six) six)) (with_ends-row_if key key' (Some Four) four)
    ∙ ap (λ (rows : List Row). row_if key' (Some Four) four ++ rows) (with_ends-row_if key key' (Some Six) six)

with_ends-rows_in : (families : List Family) (key key' : RowKey) (conns : Family → Conns) → with_ends key' (rows_in families key conns) ≡ rows_in families key' conns
with_ends-rows_in [] key key' conns = with_ends-both key key' (conns Four) (conns Six) (are_same_conns (conns Four) (conns Six))
with_ends-rows_in (family ∷ []) key key' conns = with_ends-row_if key key' None (conns family)
with_ends-rows_in (family ∷ next ∷ families) key key' conns = with_ends-both key key' (conns Four) (conns Six) (are_same_conns (conns Four) (conns Six))

rows_of_both-agree : (key : RowKey) (conns conns' : Family → Conns) → ((family : Family) → conns family ≡ conns' family) →
    rows_of_both key (conns Four) (conns Six) ≡ rows_of_both key (conns' Four) (conns' Six)
rows_of_both-agree key conns conns' agree =
    ap (λ (four : Conns). rows_of_both key four (conns Six)) (agree Four) ∙ ap (λ (six : Conns). rows_of_both key (conns' Four) six) (agree Six)

pub rows_in-agree : (families : List Family) (key : RowKey) (conns conns' : Family → Conns) → ((family : Family) → conns family ≡ conns' family) →
    rows_in families key conns ≡ rows_in families key conns'
rows_in-agree [] key conns conns' agree = rows_of_both-agree key conns conns' agree
rows_in-agree (family ∷ []) key conns conns' agree = ap (row_if key None) (agree family)
rows_in-agree (family ∷ next ∷ families) key conns conns' agree = rows_of_both-agree key conns conns' agree

-- destinations to which the same passes have the same rows but for their ends
with_ends-pair_rows : (lists : EstateLists) (folding : Folding) (source b b' : ℕ) →
    ((family : Family) → conns_of (pair_allows lists folding source b family) ≡ conns_of (pair_allows lists folding source b' family)) →
    with_ends (pair_key source b') (pair_rows (table_of lists folding) source b) ≡ pair_rows (table_of lists folding) source b'
unfolding pair_rows table_of
with_ends-pair_rows lists folding source b b' same =
    with_ends-rows_in (table_of lists folding).families (pair_key source b) (pair_key source b') (λ family. conns_of (pair_allows lists folding source b family))
    ∙ rows_in-agree (table_of lists folding).families (pair_key source b') (λ family. conns_of (pair_allows lists folding source b family))
    (λ family. conns_of (pair_allows lists folding source b' family)) same

-- ---- a workload of one pod with itself

abbrev pub nothing : Conns
nothing = record { tcp = []; udp = []; sctp = [] }

nothing-has : (spot : PortSpot) → has_spot nothing spot ≡ false
nothing-has spot = elim spot.proto as (λ proto. has_spot nothing (record { proto = proto; port = spot.port }) ≡ false) [ Tcp ↦ refl | Udp ↦ refl | Sctp ↦ refl ]

pub conns_of-nothing : (passes : PortSpot → Bool) → ((spot : PortSpot) → passes spot ≡ false) → conns_of passes ≡ nothing
conns_of-nothing passes none =
    conns_of-agrees passes (has_spot nothing) (λ spot _. none spot ∙ sym (nothing-has spot))
    ∙ conns_of-has_spot nothing (record { tcp = tt; udp = tt; sctp = tt })

pub rows_in-nothing : (families : List Family) (key : RowKey) → rows_in families key (λ family. nothing) ≡ []
rows_in-nothing [] key = refl
rows_in-nothing (family ∷ []) key = refl
rows_in-nothing (family ∷ next ∷ families) key = refl

-- has no rows
pub pair_rows-alone : (lists : EstateLists) (folding : Folding) (source destination : ℕ) → is_alone folding source destination ≡ true → [] ≡ pair_rows (table_of lists folding) source destination
unfolding pair_rows table_of
pair_rows-alone lists folding source destination alone =
    sym (rows_in-agree (table_of lists folding).families (pair_key source destination) (λ family. conns_of (pair_allows lists folding source destination family)) (λ family. nothing)
    (λ family. conns_of-nothing _ (λ spot. pair_allows-alone lists folding source destination family spot alone))
    ∙ rows_in-nothing (table_of lists folding).families (pair_key source destination))

-- ---- kinds

-- the same passes to destinations of one kind
conns-same_kind : (lists : EstateLists) (folding : Folding) (source b b' : ℕ) (family : Family) → folding ≡ folding_of lists → IsLawful lists → source < length folding.workloads →
    b < length folding.workloads → b' < length folding.workloads → slice_index folding.kinds b ≡ slice_index folding.kinds b' → is_alone folding source b ≡ false → is_alone folding source b' ≡ false →
    conns_of (pair_allows lists folding source b family) ≡ conns_of (pair_allows lists folding source b' family)
conns-same_kind lists folding source b b' family folded lawful =
    let of : Folding → Type 0 = λ f. source < length f.workloads → b < length f.workloads → b' < length f.workloads → slice_index f.kinds b ≡ slice_index f.kinds b' → is_alone f source b ≡ false →
    is_alone f source b' ≡ false → conns_of (pair_allows lists f source b family) ≡ conns_of (pair_allows lists f source b' family) in
    subst of (sym folded) (λ near far far' same alone alone'.
    let kind = kinds-by lists b far in
    let kind' = kinds-by lists b' far' in
    conns_of-agrees _ _ (λ spot _. pair_allows-kinds lists source source b b' family spot lawful (kinds-by lists source near).0 (kinds-by lists source near).0 kind.0 kind'.0 refl
    (sym kind.2 ∙ same ∙ kind'.2) alone alone'))

-- ---- what is kept

nothing_there : (kind : ℕ) (conns : List CachedConns) → cached_at [] kind ≡ Some conns → ⊥
nothing_there zero conns is = absurd (cc)
nothing_there (suc kind) conns is = absurd (cc)

-- at first nothing is
pub IsCached-nothing : (lists : EstateLists) (folding : Folding) (source : ℕ) → IsCached lists folding source []
unfolding IsCached
IsCached-nothing lists folding source destination conns near far alone is = absurd (nothing_there (slice_index folding.kinds destination) conns is)

-- what is kept stays right
pub IsCached-same : (lists : EstateLists) (folding : Folding) (source : ℕ) (old new : List (Option (List CachedConns))) → IsCached lists folding source old → CachesTheSame old new →
    IsCached lists folding source new
unfolding IsCached
IsCached-same lists folding source old new kept same destination conns near far alone is =
    kept destination conns near far alone (sym (same.all _) ∙ is)

same_some : (found : Option (List CachedConns)) (a b : List CachedConns) → found ≡ Some a → found ≡ Some b → a ≡ b
same_some found a b is is' = cc

-- also with the rows to one more kind
pub IsCached-also : (lists : EstateLists) (folding : Folding) (source destination : ℕ) (old new : List (Option (List CachedConns))) (rows : List Row) → folding ≡ folding_of lists → IsLawful lists →
    destination < length folding.workloads → is_alone folding source destination ≡ false → rows ≡ pair_rows (table_of lists folding) source destination → IsCached lists folding source old →
    CachesAlso old new (slice_index folding.kinds destination) (map cached_of rows) → IsCached lists folding source new
unfolding IsCached
IsCached-also lists folding source destination old new rows folded lawful here here_alone made kept also other conns near far alone is =
    elim (eqb_tells (slice_index folding.kinds other) (slice_index folding.kinds destination)) [
      | inl same ↦
          let at = subst (λ (kind : ℕ). cached_at new kind ≡ Some conns) same.1 is in
          ap (map (row_with (pair_key source other))) (same_some _ conns (map cached_of rows) at also.one)
          ∙ ap (with_ends (pair_key source other)) made
          ∙ with_ends-pair_rows lists folding source destination other (λ family. conns-same_kind lists folding source destination other family folded lawful near here far
          (sym same.1) here_alone alone)
      | inr apart ↦ kept other conns near far alone (sym (also.others _ apart.1) ∙ is)
    ]

some_kept : (found : Option (List CachedConns)) (f : List CachedConns → List Row) (rows : List Row) → Some rows ≡ option_map f found →
    (conns : List CachedConns) × (found ≡ Some conns) × (rows ≡ f conns)
some_kept None f rows is = absurd (cc)
some_kept (Some conns) f rows is = (conns, refl, cc)

-- what is kept for the kind of a destination gives its rows
pub rows-kept : (lists : EstateLists) (folding : Folding) (source destination : ℕ) (kept : List (Option (List CachedConns))) (rows : List Row) → source < length folding.workloads →
    destination < length folding.workloads → is_alone folding source destination ≡ false → IsCached lists folding source kept →
    Some rows ≡ option_map (map (row_with (pair_key source destination))) (cached_at kept (slice_index folding.kinds destination)) → rows ≡ pair_rows (table_of lists folding) source destination
unfolding IsCached
rows-kept lists folding source destination kept rows near far alone is_kept is =
    let there = some_kept (cached_at kept (slice_index folding.kinds destination)) (map (row_with (pair_key source destination))) rows is in
    there.2 ∙ is_kept destination there.0 near far alone there.1

-- there are none exactly where nothing is kept
pub none_kept : (found : Option (List CachedConns)) (f : List CachedConns → List Row) → None ≡ option_map f found → found ≡ None
none_kept None f is = refl
none_kept (Some conns) f is = absurd (cc)

-- ---- the most rules

-- of no workload more rules speak
pub rules-most : (lists : EstateLists) (folding : Folding) (direction : Direction) (workload : ℕ) → workload < length folding.workloads →
    rules_of lists folding direction workload ≤ most_rules lists folding
unfolding most_rules
rules-most lists folding direction workload within =
    let both : ℕ → ℕ = λ w. max (rules_of lists folding Ingress w) (rules_of lists folding Egress w) in
    let here : both (0 + workload) ≡ both workload = ap both (let same : 0 + workload ≡ workload = omega arith in same) in
    let most = greatest-at both 0 (length folding.workloads) workload within in
    elim direction as (λ d. rules_of lists folding d workload ≤ most_rules lists folding) [ Ingress ↦ omega (arith, here, most) | Egress ↦ omega (arith, here, most) ]

-- what is looked at for a pair is due for a kind for which nothing is kept
pub pair-due : (lists : EstateLists) (folding : Folding) (old new kind : ℕ) (kept : List (Option (List CachedConns))) → kind < folding.kind_count → length kept ≤ folding.kind_count →
    cached_at kept kind ≡ None → new ≤ old + 4 * most_rules lists folding → new ≤ old + 4 * most_rules lists folding * (folding.kind_count - cached_count kept)
pair-due lists folding old new kind kept within few none steps =
    let most = 4 * most_rules lists folding in
    let low = cached_count-below kept kind folding.kind_count few within none in
    let one : most * 1 ≤ most * (folding.kind_count - cached_count kept) = mul-le-mul_left most (let some : 1 ≤ folding.kind_count - cached_count kept = omega (arith, low) in some) in
    omega (arith, steps, one)

-- and no more when it is kept
pub pair-counted : (lists : EstateLists) (folding : Folding) (old new kind : ℕ) (kept kept' : List (Option (List CachedConns))) → kind < folding.kind_count → length kept ≤ folding.kind_count →
    cached_at kept kind ≡ None → cached_count kept' ≡ cached_count kept + 1 → new ≤ old + 4 * most_rules lists folding →
    new + 4 * most_rules lists folding * (folding.kind_count - cached_count kept') ≤ old + 4 * most_rules lists folding * (folding.kind_count - cached_count kept)
pair-counted lists folding old new kind kept kept' within few none more steps =
    let most = 4 * most_rules lists folding in
    let low = cached_count-below kept kind folding.kind_count few within none in
    let left : folding.kind_count - cached_count kept ≡ folding.kind_count - cached_count kept' + 1 = omega (arith, low, more) in
    let is : most * (folding.kind_count - cached_count kept) ≡ most * (folding.kind_count - cached_count kept') + most =
    ap (λ (n : ℕ). most * n) left ∙ (let same : most * (folding.kind_count - cached_count kept' + 1) ≡ most * (folding.kind_count - cached_count kept') + most = omega arith in same) in
    omega (arith, steps, is)

-- ---- places

-- for the next place of the same source the same is kept
pub IsCached-same_source : (lists : EstateLists) (folding : Folding) (place : ℕ) (kept : List (Option (List CachedConns))) → place < length folding.workloads * length folding.workloads →
    place % length folding.workloads + 1 ≢ length folding.workloads → IsCached lists folding (place / length folding.workloads) kept → IsCached lists folding ((place + 1) / length folding.workloads) kept
IsCached-same_source lists folding place kept below more is =
    let P : ℕ → Type 0 = λ source. IsCached lists folding source kept in
    subst P (sym (same_source (length folding.workloads) place below more)) is

-- and behind the pairs there is no source
pub IsCached-behind : (lists : EstateLists) (folding : Folding) (place : ℕ) (kept : List (Option (List CachedConns))) → length folding.workloads * length folding.workloads ≤ place →
    IsCached lists folding (place / length folding.workloads) kept
unfolding IsCached
IsCached-behind lists folding place kept up destination conns near far alone is = absurd (source-behind (length folding.workloads) place up near)
