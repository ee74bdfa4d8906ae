-- Each row of a cluster is of pods of the estate. For PromiseLemmas.
use Rattle.std.proofs.Common.{◌≡◌, ◌≢◌, ◌<◌, ◌-◌, ◌^◌, ◌==◌, ◌&&◌, ℕ, List, [], ◌∷◌, map, length, slice_index, Bool, true, false, All, Option, None, if◌then◌else◌, arith, refl, sym, ap, ◌∙◌, inl, inr}
use Rattle.std.specs.Prelude.{◌↔◌}
use Rattle.std.specs.Cmp.{ranked}
use Rattle.std.specs.List.{flat_map, range_with_len}
use Rattle.std.specs.List.Sorted.{IsStrictlySortedBy}
use Rattle.std.specs.Ordering.{nat_cmp}
use Rattle.std.specs.declared.cmp.Ordering.TheVariants.{Less}
use Rattle.std.proofs.lemmas.Bool.{false_from_ne_true, false≢true}
use Rattle.std.proofs.lemmas.Bool.Decides.{eqb_tells}
use Rattle.std.proofs.lemmas.List.Elements.{All-append, All-map, All-weaker}
use Rattle.np_base.proofs.Lists.{All-numbers}
use Rattle.np_command_list.specs.Prelude.{AddressRow, Direction, Egress, EstateLists, Family, Four, Ingress, IsPodOf, IsRowOf, IsSpanRow, LetSomePass, PortSpot, Row, Six}
use Rattle.np_command_list.proofs.RowPartLemmas.{Agree, IsStretchOf, families-each, row_if-each, walk-stretches}
use Rattle.np_fold.proofs.WorkloadLemmas.{pods-ascend}
use Rattle.np_fold.specs.Prelude.{folding_of, members_of, workload_number}
use Rattle.np_model.specs.Prelude.{families_of}
use Rattle.np_routes.specs.Prelude.{all_ingress_rows, cluster_rows, cluster_table, ingress_allows, ingress_key, ingress_row}
use Rattle.np_routes.proofs.ClusterLemmas.{estate-names}
use Rattle.np_kinds.proofs.MemberLemmas.{destination-member, member-number, members-some, members-within, source-member}
use Rattle.np_kinds.proofs.PairLemmas.{pair_allows-alone, pair_allows-between}
use Rattle.np_conns.proofs.ConnLemmas.{conns_of-has}
use Rattle.np_table.specs.Prelude.{Stretch, address_row, address_rows, all_address_rows, all_pair_rows, all_rows, estate_table, four_of, pair_key, pair_rows, row_of, rows_of_addresses, rows_towards, six_of, table_of, walk}
use Rattle.np_conns.specs.Prelude.{conns_of}
use Rattle.np_kinds.specs.Prelude.{IsWorkload, address_allows, between_pods, destination_pod, is_alone, number_of_workloads, pair_allows, source_pod}

-- the first two of ascending numbers differ
two-apart : (xs : List ℕ) → IsStrictlySortedBy nat_cmp xs → 1 < length xs → slice_index xs 0 ≢ slice_index xs 1
unfolding IsStrictlySortedBy
two-apart [] ascend within = absurd (omega arith)
two-apart (x ∷ []) ascend within = absurd (omega arith)
two-apart (x ∷ y ∷ xs) ascend within = λ same. let lower : x < y = ranked x y Less (sym ascend.0.0) in omega (arith, lower, same)

not-one : (count : ℕ) (same : Bool) → 0 < count → same ≡ true → (same && count == 1) ≡ false → 1 < count
not-one count true some is alone = grind arith
not-one count false some is alone = absurd (false≢true is)

module _ (lists : EstateLists) where
  -- a row is of pods of the estate
  abbrev IsOne : Row → Type 0
  IsOne row = IsRowOf lists row.key.source row.key.destination row

  -- ---- pods

  -- the pod that stands for a workload is of it
  source-of : (workload : ℕ) → IsWorkload lists workload → IsPodOf lists workload (source_pod (folding_of lists) workload)
  source-of workload is =
      let has = source-member (folding_of lists) workload (members-some lists (folding_of lists) workload refl is) in
      let within = members-within lists (folding_of lists) workload (source_pod (folding_of lists) workload) refl is has in
      (within, member-number lists workload (source_pod (folding_of lists) workload) within has)

  destination-of : (source destination : ℕ) → IsWorkload lists destination → is_alone (folding_of lists) source destination ≡ false →
      IsPodOf lists destination (destination_pod (folding_of lists) source destination)
  destination-of source destination is alone =
      let has = destination-member (folding_of lists) source destination (members-some lists (folding_of lists) destination refl is) alone in
      let within = members-within lists (folding_of lists) destination (destination_pod (folding_of lists) source destination) refl is has in
      (within, member-number lists destination (destination_pod (folding_of lists) source destination) within has)

  -- the pods that stand for two workloads are two
  pods-apart : (source destination : ℕ) → IsWorkload lists source → IsWorkload lists destination → is_alone (folding_of lists) source destination ≡ false →
      source_pod (folding_of lists) source ≢ destination_pod (folding_of lists) source destination
  pods-apart source destination from to alone =
      elim (eqb_tells source destination) [
        | inl same ↦
            let some = members-some lists (folding_of lists) source refl from in
            let longer = not-one (length (members_of (folding_of lists) source)) (source == destination) some same.0 alone in
            λ equal. two-apart (members_of (folding_of lists) source) (pods-ascend lists source) longer
            (equal ∙ ap (λ (one : Bool). slice_index (members_of (folding_of lists) destination) (if one then 1 else 0)) same.0
            ∙ ap (λ (number : ℕ). slice_index (members_of (folding_of lists) number) 1) (sym same.1))
        | inr differ ↦ λ equal. differ.1 (sym (source-of source from).1 ∙ ap (workload_number lists) equal ∙ (destination-of source destination to alone).1)
      ]

  -- ---- pair rows

  pair_rows-are : (source destination : ℕ) → IsWorkload lists source → IsWorkload lists destination → All IsOne (pair_rows (estate_table lists) source destination)
  unfolding pair_rows table_of
  pair_rows-are source destination from to =
      families-each IsOne (pair_key source destination) (pair_allows lists (folding_of lists) source destination) lists.pods row
    where
      not-alone : (family : Family) → LetSomePass (conns_of (pair_allows lists (folding_of lists) source destination family)) → is_alone (folding_of lists) source destination ≡ false
      not-alone family some =
          false_from_ne_true (is_alone (folding_of lists) source destination) (λ yes.
          let allowed = sym (conns_of-has (pair_allows lists (folding_of lists) source destination family) some.0 some.1) ∙ some.2 in
          false≢true (sym (pair_allows-alone lists (folding_of lists) source destination family some.0 yes) ∙ allowed))

      row : (mark : Option Family) (family : Family) → ((mark ≡ None) ↔ Agree (families_of lists.pods) (pair_allows lists (folding_of lists) source destination)) →
          LetSomePass (conns_of (pair_allows lists (folding_of lists) source destination family)) →
          IsOne (record { key = pair_key source destination; family = mark; conns = conns_of (pair_allows lists (folding_of lists) source destination family) })
      row mark family marked some =
          let alone = not-alone family some in
          let between : (one : Family) (spot : PortSpot) → pair_allows lists (folding_of lists) source destination one spot ≡
          between_pods lists (source_pod (folding_of lists) source) (destination_pod (folding_of lists) source destination) one spot = λ one spot. pair_allows-between
          lists (folding_of lists) source destination one spot alone in
          record {
            p = source_pod (folding_of lists) source;
            q = destination_pod (folding_of lists) source destination;
            sender = source-of source from;
            receiver = destination-of source destination to alone;
            apart = pods-apart source destination from to alone;
            some = some;
            mark = (
              λ unmarked. λ one other has has' spot is. sym (between one spot) ∙ marked.0 unmarked one other has has' spot is ∙ between other spot,
              λ agree. marked.1 (λ one other has has' spot is. between one spot ∙ agree one other has has' spot is ∙ sym (between other spot)),
            );
          }

  -- ---- address rows

  module _ (workload : ℕ) (direction : Direction) (is : IsWorkload lists workload) where
    -- a range of the workload is one of addresses of its pods
    abbrev IsOfWorkload : AddressRow → Type 0
    IsOfWorkload row = IsSpanRow lists workload direction row.span (row_of workload direction row)

    four-is : (stretch : Stretch) → IsStretchOf (address_allows lists (folding_of lists) workload direction Four) (2 ^ 32 - 1) stretch → IsOfWorkload (address_row four_of stretch)
    unfolding address_allows
    four-is stretch well = record { p = source_pod (folding_of lists) workload; near = source-of workload is; filled = well.filled; within = well.within; unmarked = refl; changes = well.changes }

    six-is : (stretch : Stretch) → IsStretchOf (address_allows lists (folding_of lists) workload direction Six) (2 ^ 128 - 1) stretch → IsOfWorkload (address_row six_of stretch)
    unfolding address_allows
    six-is stretch well = record { p = source_pod (folding_of lists) workload; near = source-of workload is; filled = well.filled; within = well.within; unmarked = refl; changes = well.changes }

    addresses-are : All IsOfWorkload (rows_of_addresses (address_allows lists (folding_of lists) workload direction))
    addresses-are =
        let passes = address_allows lists (folding_of lists) workload direction in
        All-append IsOfWorkload (map (address_row four_of) (walk (passes Four) 0 (2 ^ 32 - 1))) (map (address_row six_of) (walk (passes Six) 0 (2 ^ 128 - 1)))
        (All-map IsOfWorkload (address_row four_of) (walk (passes Four) 0 (2 ^ 32 - 1))
        (All-weaker (IsStretchOf (passes Four) (2 ^ 32 - 1)) (λ stretch. IsOfWorkload (address_row four_of stretch)) four-is (walk (passes Four) 0 (2 ^ 32 - 1))
        (walk-stretches (passes Four) (2 ^ 32 - 1))))
        (All-map IsOfWorkload (address_row six_of) (walk (passes Six) 0 (2 ^ 128 - 1))
        (All-weaker (IsStretchOf (passes Six) (2 ^ 128 - 1)) (λ stretch. IsOfWorkload (address_row six_of stretch)) six-is (walk (passes Six) 0 (2 ^ 128 - 1))
        (walk-stretches (passes Six) (2 ^ 128 - 1))))

  as-row : (workload : ℕ) (direction : Direction) (row : AddressRow) → IsSpanRow lists workload direction row.span (row_of workload direction row) → IsOne (row_of workload direction row)
  as-row workload Ingress row is = is
  as-row workload Egress row is = is

  towards-are : (workload : ℕ) (direction : Direction) → IsWorkload lists workload → All IsOne (rows_towards (estate_table lists) workload direction)
  unfolding address_rows table_of
  towards-are workload direction is =
      let rows = rows_of_addresses (address_allows lists (folding_of lists) workload direction) in
      All-map IsOne (row_of workload direction) rows
      (All-weaker (λ (row : AddressRow). IsSpanRow lists workload direction row.span (row_of workload direction row)) (λ row. IsOne (row_of workload direction row)) (as-row workload direction) rows
      (addresses-are workload direction is))

  -- ---- Ingress rows

  ingress_row-are : (controller : Option ℕ) (workload : ℕ) → IsWorkload lists workload → All IsOne (ingress_row (cluster_table lists controller) workload)
  unfolding ingress_row cluster_table
  ingress_row-are controller workload is =
      row_if-each IsOne (ingress_key workload) None (ingress_allows lists (folding_of lists) controller workload)
      (λ some. record { p = source_pod (folding_of lists) workload; receiver = source-of workload is; unmarked = refl; some = some })

  -- ---- all of them

  -- what holds of what each workload gives
  All-workloads : (f : ℕ → List Row) → ((k : ℕ) → IsWorkload lists k → All IsOne (f k)) → All IsOne (flat_map f (range_with_len 0 (length (estate_table lists).names)))
  All-workloads f each = All-numbers IsOne f 0 (length (estate_table lists).names) (number_of_workloads lists) (omega (arith, estate-names lists)) each

  all_rows-are : All IsOne (all_rows (estate_table lists))
  unfolding all_pair_rows all_address_rows
  all_rows-are =
      All-append IsOne (all_pair_rows (estate_table lists)) (all_address_rows (estate_table lists))
      (All-workloads _ (λ source from. All-workloads _ (λ destination to. pair_rows-are source destination from to)))
      (All-workloads _ (λ workload is.
      All-append IsOne (rows_towards (estate_table lists) workload Ingress) (rows_towards (estate_table lists) workload Egress) (towards-are workload Ingress is) (towards-are workload Egress is)))

  pub cluster_rows-are : (controller : Option ℕ) → All IsOne (cluster_rows (cluster_table lists controller))
  unfolding cluster_table all_ingress_rows
  cluster_rows-are controller =
      All-append IsOne (all_rows (estate_table lists)) (all_ingress_rows (cluster_table lists controller)) all_rows-are
      (All-workloads (ingress_row (cluster_table lists controller)) (λ workload is. ingress_row-are controller workload is))
