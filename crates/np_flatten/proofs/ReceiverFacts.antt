-- The workload of a group that stands for it as one that receives. For `Flat::add_rules_of_addresses`, `Flat::count` and 6 more.
use Rattle.std.proofs.Common.{◌≡◌, ◌≢◌, ℕ, ◌+◌, ◌-◌, ◌<◌, ◌≤◌, List, [], ◌∷◌, ◌++◌, All, Bool, true, false, not, ◌&&◌, ◌==◌, Option, Some, None, flat_map, slice_index, refl, sym, ap, subst, ◌∙◌, inl, inr, arith, eq-eqb, if◌then◌else◌}
use Rattle.std.specs.Prelude.{is_some, option_map}
use Rattle.std.proofs.lemmas.Bool.{and_from, and_left, and_right, cases_eq, cases_lt, ne_eqb, or_left, true≢false}
use Rattle.std.proofs.lemmas.List.{flat_map_more}
use Rattle.std.proofs.lemmas.List.Elements.{All-from_recursion, All-get_or, All-weaker}
use Rattle.std.proofs.lemmas.Option.{slice_get-get_or}
use Rattle.np_base.proofs.Ranges.{is_within-inside}
use Rattle.np_base.specs.Ranges.{IsAscending, holds}
use Rattle.np_flatten.specs.Prelude.{AddressRow, AddressSpan, Direction, EstateLists, IsFilled, NetRule, Range, are_together, first_of_group, group_count, group_firsts, group_of, is_defined, next_in, receiver_in, rules_from_group, set_from, set_of}
use Rattle.np_classes.proofs.Lists.{places_more}
use Rattle.np_classes.proofs.Relations.{class_of_first, firsts-le-count, firsts_within}
use Rattle.np_classes.specs.Classes.{places}
use Rattle.np_conns.specs.Prelude.{Conns}
use Rattle.np_fold.specs.Prelude.{folding_of}
use Rattle.np_flatten.proofs.AddressVerdicts.{IsWellSpan, rows-well}
use Rattle.np_flatten.proofs.ClassFirsts.{first-least}
use Rattle.np_flatten.proofs.DifferLemmas.{apart-defined}
use Rattle.np_flatten.proofs.FindFacts.{found-is, found-none, range-none, range-some}
use Rattle.np_flatten.proofs.GroupLemmas.{together-is}
use Rattle.np_table.specs.Prelude.{address_rows, estate_table}
use Rattle.np_kinds.specs.Prelude.{is_alone, number_of_workloads}
use Rattle.np_table.specs.declared.rows.AddressSpan.TheVariants as span

-- ---- the first workload of a group

pub group-first-in : (lists : EstateLists) (all : List ℕ) (group : ℕ) → all ≡ group_firsts lists → group < group_count lists → slice_index all group < number_of_workloads lists
group-first-in lists all group is within =
    subst (λ (xs : List ℕ). slice_index xs group < number_of_workloads lists) (sym is)
    (All-get_or (λ (k : ℕ). k < number_of_workloads lists) (group_firsts lists) group 0 within (firsts_within (are_together lists) (number_of_workloads lists)))

pub groups-le : (lists : EstateLists) → group_count lists ≤ number_of_workloads lists
groups-le lists = firsts-le-count (are_together lists) (number_of_workloads lists)

-- it is of the group
group-of_first : (lists : EstateLists) (group : ℕ) → group < group_count lists → group_of lists (first_of_group lists group) ≡ group
group-of_first lists group within =
    class_of_first (are_together lists) (number_of_workloads lists) (together-is lists (number_of_workloads lists)) group (first_of_group lists group)
    (slice_get-get_or (group_firsts lists) group 0 within)

-- groups have first workloads of their own
pub firsts-apart : (lists : EstateLists) (sender group : ℕ) → sender < group_count lists → group < group_count lists → sender ≢ group → first_of_group lists sender ≢ first_of_group lists group
firsts-apart lists sender group sender_in group_in apart same = apart (sym (group-of_first lists sender sender_in) ∙ ap (group_of lists) same ∙ group-of_first lists group group_in)

abbrev receives : EstateLists → ℕ → ℕ → ℕ → Bool
receives lists source group workload = group_of lists workload == group && is_defined lists source workload

-- no workload before it is
none-before : (lists : EstateLists) (group k : ℕ) → group < group_count lists → k < first_of_group lists group → (group_of lists k == group) ≡ false
none-before lists group k within before =
    let first_in = group-first-in lists (group_firsts lists) group refl within in
    ne_eqb (group_of lists k) group (λ same. omega (
      arith,
      before,
      first-least (are_together lists) (number_of_workloads lists) (together-is lists (number_of_workloads lists)) (first_of_group lists group) k first_in (omega arith)
          (same ∙ sym (group-of_first lists group within)),
      first-own lists group within,
    ))
  where
    first-own : (lists : EstateLists) (group : ℕ) → group < group_count lists → slice_index (group_firsts lists) (group_of lists (first_of_group lists group)) ≡ first_of_group lists group
    first-own lists group within = ap (slice_index (group_firsts lists)) (group-of_first lists group within)

-- so it is found where it may be sent to
receiver-first : (lists : EstateLists) (source group : ℕ) → group < group_count lists → is_defined lists source (first_of_group lists group) ≡ true →
    receiver_in lists source group ≡ Some (first_of_group lists group)
receiver-first lists source group within is =
    let first_in = group-first-in lists (group_firsts lists) group refl within in
    range-some (receives lists source group) 0 (number_of_workloads lists) (first_of_group lists group) (omega arith) (omega arith)
    (and_from (group_of lists (first_of_group lists group) == group) (is_defined lists source (first_of_group lists group))
    (eq-eqb (group_of lists (first_of_group lists group)) group (group-of_first lists group within)) is)
    (λ k _ before. and_left (group_of lists k == group) (is_defined lists source k) (none-before lists group k within before))

-- ---- sets between groups

-- from one group to another
pub set-cross : (lists : EstateLists) (sender group : ℕ) → sender < group_count lists → group < group_count lists → sender ≢ group →
    Some (set_of lists (first_of_group lists sender) (first_of_group lists group)) ≡ set_from lists sender group
set-cross lists sender group sender_in group_in apart =
    sym (ap (option_map (set_of lists (first_of_group lists sender)))
    (receiver-first lists (first_of_group lists sender) group group_in
    (apart-defined lists (first_of_group lists sender) (first_of_group lists group) (firsts-apart lists sender group sender_in group_in apart))))

-- within the first workload of a group
pub set-within : (lists : EstateLists) (sender group : ℕ) → group < group_count lists → sender ≡ group → is_alone (folding_of lists) (first_of_group lists group) (first_of_group lists group) ≡ false →
    Some (set_of lists (first_of_group lists group) (first_of_group lists group)) ≡ set_from lists sender group
set-within lists sender group within same alone =
    let first = first_of_group lists group in
    sym (ap (λ (h : ℕ). set_from lists h group) same
    ∙ ap (option_map (set_of lists first)) (receiver-first lists first group within (ap not alone)))

-- the workload behind the first one
pub next-in : (lists : EstateLists) (workload group next : ℕ) → Some next ≡ next_in lists workload group → workload < number_of_workloads lists → (workload < next) × (next < number_of_workloads lists)
next-in lists workload group next is within =
    let found = found-is (λ (k : ℕ). group_of lists k == group) (workload + 1) (number_of_workloads lists - (workload + 1)) next (sym is) in
    (omega (arith, found.0), omega (arith, found.1, within))

receiver-next : (lists : EstateLists) (group : ℕ) (next : Option ℕ) → group < group_count lists → is_alone (folding_of lists) (first_of_group lists group) (first_of_group lists group) ≡ true →
    next_in lists (first_of_group lists group) group ≡ next → receiver_in lists (first_of_group lists group) group ≡ next
receiver-next lists group next within alone is = by next is
  where
    first_in : first_of_group lists group < number_of_workloads lists
    first_in = group-first-in lists (group_firsts lists) group refl within

    low : (k : ℕ) → k ≤ first_of_group lists group → receives lists (first_of_group lists group) group k ≡ false
    low k below = elim (cases_eq k (first_of_group lists group)) [
      | inl here ↦ ap (receives lists (first_of_group lists group) group) here ∙ and_right (group_of lists (first_of_group lists group) == group)
          (is_defined lists (first_of_group lists group) (first_of_group lists group)) (ap not alone)
      | inr apart ↦ and_left (group_of lists k == group) (is_defined lists (first_of_group lists group) k) (none-before lists group k within (omega arith))
    ]

    by : (o : Option ℕ) → next_in lists (first_of_group lists group) group ≡ o → receiver_in lists (first_of_group lists group) group ≡ o
    by None none =
        range-none (receives lists (first_of_group lists group) group) 0 (number_of_workloads lists) (λ k _ high. elim (cases_lt (first_of_group lists group) k) [
          | inl behind ↦ and_left (group_of lists k == group) (is_defined lists (first_of_group lists group) k)
              (found-none (λ (j : ℕ). group_of lists j == group) (first_of_group lists group + 1) (number_of_workloads lists - (first_of_group lists group + 1)) none k (omega arith) (omega arith))
          | inr before ↦ low k before
        ])
    by (Some at) some =
        let found = found-is (λ (j : ℕ). group_of lists j == group) (first_of_group lists group + 1) (number_of_workloads lists - (first_of_group lists group + 1)) at some in
        range-some (receives lists (first_of_group lists group) group) 0 (number_of_workloads lists) at (omega arith) (omega (arith, found.1, first_in))
        (and_from (group_of lists at == group) (is_defined lists (first_of_group lists group) at) found.2 (apart-defined lists (first_of_group lists group) at (λ same. omega (arith, found.0, same))))
        (λ k _ before. elim (cases_lt (first_of_group lists group) k) [
          | inl behind ↦ and_left (group_of lists k == group) (is_defined lists (first_of_group lists group) k) (found.3 k (omega arith) before)
          | inr not_behind ↦ low k not_behind
        ])

-- from the first workload of a group of one pod to the next one
pub set-next : (lists : EstateLists) (sender group : ℕ) (next : Option ℕ) → group < group_count lists → sender ≡ group →
    is_alone (folding_of lists) (first_of_group lists group) (first_of_group lists group) ≡ true → next ≡ next_in lists (first_of_group lists group) group →
    option_map (set_of lists (first_of_group lists group)) next ≡ set_from lists sender group
set-next lists sender group next within same alone is =
    sym (ap (λ (h : ℕ). set_from lists h group) same
    ∙ ap (option_map (set_of lists (first_of_group lists group))) (receiver-next lists group next within alone (sym is)))

-- ---- rules

-- the rules of one more group
pub groups-more : (lists : EstateLists) (group n : ℕ) (before after : List NetRule) → before ≡ flat_map (rules_from_group lists group) (places n) → after ≡ before ++ rules_from_group lists group n →
    after ≡ flat_map (rules_from_group lists group) (places (n + 1))
groups-more lists group n before after so_far here =
    here ∙ ap (λ (all : List NetRule). all ++ rules_from_group lists group n) so_far
    ∙ flat_map_more (rules_from_group lists group) [] (places n) n
    ∙ sym (ap (flat_map (rules_from_group lists group)) (places_more n))

-- ---- addresses

filled : (s : AddressSpan) → IsWellSpan s → IsFilled s
filled (span.Four range) well = well.0
filled (span.Six range) well = well.0

-- the ranges of a workload are not empty
pub rows-filled : (lists : EstateLists) (w : ℕ) (direction : Direction) (rows : List AddressRow) → rows ≡ address_rows (estate_table lists) w direction → All (λ row. IsFilled row.span) rows
unfolding address_rows
rows-filled lists w direction rows is =
    subst (λ (all : List AddressRow). All (λ row. IsFilled row.span) all) (sym is)
    (All-weaker (λ (row : AddressRow). IsWellSpan row.span) (λ (row : AddressRow). IsFilled row.span) (λ row well. filled row.span well) (address_rows (estate_table lists) w direction)
    (All-from_recursion (λ (row : AddressRow). IsWellSpan row.span) (address_rows (estate_table lists) w direction) (rows-well ((estate_table lists).addresses w direction))))

-- ranges that hold no number are none
pub no-ranges : (low high : ℕ) (ranges : List (Range ℕ)) → IsAscending (λ a. a) low high ranges → ((p : ℕ) → holds (λ a. a) ranges p ≡ false) → ranges ≡ []
no-ranges low high [] ascends none = refl
no-ranges low high (range ∷ ranges) ascends none =
    absurd (true≢false (sym (or_left _ _ (is_within-inside (λ a. a) range range.lo (omega arith) ascends.1)) ∙ none range.lo))

-- ---- what passes within a workload

-- where something is told within a workload it has two pods
pub own-is : (lists : EstateLists) (group first : ℕ) (within : Option Conns) → group < group_count lists → first ≡ first_of_group lists group →
    within ≡ (if is_alone (folding_of lists) first first then None else Some (set_of lists first first)) → is_some within ≡ true → within ≡ set_from lists group group
own-is lists group first within group_in is told some = by (is_alone (folding_of lists) first first) refl told
  where
    by : (alone : Bool) → is_alone (folding_of lists) first first ≡ alone → within ≡ (if alone then None else Some (set_of lists first first)) → within ≡ set_from lists group group
    by true alone none = let never : false ≡ true = ap is_some (sym none) ∙ some in absurd (cc)
    by false alone found =
        found ∙ ap (λ (f : ℕ). Some (set_of lists f f)) is
        ∙ set-within lists group group group_in refl (subst (λ (f : ℕ). is_alone (folding_of lists) f f ≡ false) is alone)

-- and where nothing is it has one
pub alone-from : (alone : Bool) (set : Conns) (within : Option Conns) → within ≡ (if alone then None else Some set) → is_some within ≡ false → alone ≡ true
alone-from true set within told none = refl
alone-from false set within told none = let never : true ≡ false = ap is_some (sym told) ∙ none in absurd (cc)

-- from there to the next one
pub next-is : (lists : EstateLists) (group first : ℕ) (next : Option ℕ) → group < group_count lists → first ≡ first_of_group lists group → is_alone (folding_of lists) first first ≡ true →
    next ≡ next_in lists first group → option_map (set_of lists first) next ≡ set_from lists group group
next-is lists group first next group_in is alone found =
    ap (λ (f : ℕ). option_map (set_of lists f) next) is
    ∙ set-next lists group group next group_in refl (subst (λ (f : ℕ). is_alone (folding_of lists) f f ≡ true) is alone) (found ∙ ap (λ (f : ℕ). next_in lists f group) is)
