-- What a report of `exposure` says, and its rows side by side. For `all_sides`, `exposure_of` and 2 more.
use Rattle.std.proofs.Common.{◌≡◌, ◌<◌, ◌≤◌, ◌+◌, ℕ, zero, suc, List, [], ◌∷◌, ◌++◌, length, drop, get_or, flat_map, nat_lt, not, ◌==◌, Bool, true, false, ◌||◌, All, Option, None, Some, Ok, arith, refl, sym, ap, subst, ◌∙◌}
use Rattle.std.proofs.Math.Seq.{drop-cons}
use Rattle.std.proofs.lemmas.Bool.{ne_eqb}
use Rattle.std.proofs.lemmas.Bool.Decides.{nat_tests}
use Rattle.std.proofs.lemmas.Grind.{flat_map-append}
use Rattle.std.proofs.lemmas.List.Elements.{All-from_recursion}
use Rattle.std.specs.List.{AllByRecursion, range_with_len}
use Rattle.np_base.proofs.Lists.{drop-ended}
use Rattle.np_command_exposure.specs.Report.{both_sides, first_fault, nothing_unless, or_later, side_rows, weight_at, weight_fault}
use Rattle.np_command_exposure.specs.Types.{EstateLists, Fault, RowText, ShownSide}
use Rattle.np_exposure.specs.declared.exposures.TheConstants.{MOST_PATTERNS}
use Rattle.np_report.proofs.LineLemmas.{is_some_row, text_to_come-rows}
use Rattle.np_report.specs.Prelude.{Form, lines_of, text_to_come}
use Rattle.np_kinds.specs.Prelude.{IsWorkload, number_of_workloads}

-- ---- what is shown

range-last : (a n : ℕ) → range_with_len a (suc n) ≡ range_with_len a n ++ (a + n) ∷ []
range-last a zero = ap (λ (x : ℕ). x ∷ []) (omega arith)
range-last a (suc n) =
    let later : a + 1 + n ≡ a + suc n = omega arith in
    ap (λ (xs : List ℕ). a ∷ xs) (range-last (a + 1) n)
    ∙ ap (λ (x : ℕ). a ∷ range_with_len (a + 1) n ++ x ∷ []) later

pub sides-next : (count : ℕ) (sides more : List ShownSide) → sides ≡ flat_map both_sides (range_with_len 0 count) → more ≡ sides ++ both_sides count
    → more ≡ flat_map both_sides (range_with_len 0 (count + 1))
sides-next count sides more is adds =
    adds ∙ ap (λ (all : List ShownSide). all ++ both_sides count) is
    ∙ sym (ap (flat_map both_sides) last ∙ flat_map-append both_sides (range_with_len 0 count) (count ∷ []))
  where
    one_more : count + 1 ≡ suc count
    one_more = omega arith

    zero_first : 0 + count ≡ count
    zero_first = omega arith

    last : range_with_len 0 (count + 1) ≡ range_with_len 0 count ++ count ∷ []
    last = ap (range_with_len 0) one_more ∙ range-last 0 count ∙ ap (λ (x : ℕ). range_with_len 0 count ++ x ∷ []) zero_first

-- each of all is a workload
all-there : (from count end : ℕ) → from + count ≤ end → AllByRecursion (λ side. side.workload < end) (flat_map both_sides (range_with_len from count))
all-there from zero end within = tt
all-there from (suc count) end within = let here : from < end = omega arith in (here, (here, all-there (from + 1) count end (omega arith)))

pub sides-there : (lists : EstateLists) (count : ℕ) (sides : List ShownSide) → count ≡ number_of_workloads lists → sides ≡ flat_map both_sides (range_with_len 0 count)
    → All (λ side. IsWorkload lists side.workload) sides
sides-there lists count sides all is =
    let of : List ShownSide → Type 0 = All (λ (side : ShownSide). IsWorkload lists side.workload) in
    let each = all-there 0 count (number_of_workloads lists) (omega (arith, all)) in
    subst of (sym is) (All-from_recursion (λ (side : ShownSide). IsWorkload lists side.workload) (flat_map both_sides (range_with_len 0 count)) each)

-- ---- faults

-- a side without a fault has few patterns
pub few-at : (lists : EstateLists) (side : ShownSide) → weight_fault lists side ≡ None → weight_at lists side ≤ MOST_PATTERNS
unfolding weight_fault
few-at lists side none = by (nat_lt MOST_PATTERNS (weight_at lists side)) refl
  where
    by : (over : Bool) → nat_lt MOST_PATTERNS (weight_at lists side) ≡ over → weight_at lists side ≤ MOST_PATTERNS
    by false is = grind (arith, nat_tests, is)
    by true is = absurd (some (rw is at none))
      where
        some : {X : Type 0} {x : X} → Option.Some x ≡ None → ⊥
        some is = cc

pub both-none : (found later : Option Fault) → or_later found later ≡ None → (found ≡ None) × (later ≡ None)
both-none None later none = (refl, none)
both-none (Some fault) later none = absurd (cc)

few-each : (lists : EstateLists) (sides : List ShownSide) → first_fault lists sides ≡ None → AllByRecursion (λ side. weight_at lists side ≤ MOST_PATTERNS) sides
few-each lists [] none = tt
few-each lists (side ∷ sides) none =
    let parts = both-none (weight_fault lists side) (first_fault lists sides) none in (few-at lists side parts.0, few-each lists sides parts.1)

-- sides that are not refused have no fault
pub none-refused : (found : Option Fault) → nothing_unless found ≡ Ok tt → found ≡ None
none-refused None is = refl
none-refused (Some fault) is = absurd (cc)

pub few-all : (lists : EstateLists) (sides : List ShownSide) → first_fault lists sides ≡ None → All (λ side. weight_at lists side ≤ MOST_PATTERNS) sides
few-all lists sides none = All-from_recursion (λ (side : ShownSide). weight_at lists side ≤ MOST_PATTERNS) sides (few-each lists sides none)

-- ---- what is left of the text

some-rows : (rows : List RowText) (empty : Bool) → empty ≡ (length rows == 0) → is_some_row rows ≡ not empty
some-rows [] empty is = ap not (sym is)
some-rows (row ∷ rows) empty is = ap not (sym (is ∙ ne_eqb (length (row ∷ rows)) 0 (λ none. absurd (omega (arith, none)))))

-- the lines of a side stand before what is left behind it
pub left-next : (form : Form) (lists : EstateLists) (sides : List ShownSide) (i : ℕ) (d : ShownSide) (came : Bool) (rows : List RowText) (empty : Bool) → i < length sides
    → rows ≡ side_rows lists (get_or sides i d) → empty ≡ (length rows == 0)
    → text_to_come form came (flat_map (side_rows lists) (drop i sides)) ≡ lines_of form came rows ++ text_to_come form (came || not empty) (flat_map (side_rows lists) (drop (i + 1) sides))
left-next form lists sides i d came rows empty within made none =
    let more : List RowText = flat_map (side_rows lists) (drop (i + 1) sides) in
    let next : suc i ≡ i + 1 = omega arith in
    let first : drop i sides ≡ get_or sides i d ∷ drop (i + 1) sides = drop-cons sides i d within ∙ ap (λ (k : ℕ). get_or sides i d ∷ drop k sides) next in
    ap (λ (left : List ShownSide). text_to_come form came (flat_map (side_rows lists) left)) first
    ∙ ap (λ (own : List RowText). text_to_come form came (own ++ more)) (sym made)
    ∙ text_to_come-rows form came rows more
    ∙ ap (λ (some : Bool). lines_of form came rows ++ text_to_come form (came || some) more) (some-rows rows empty none)

-- behind the last side it is the end
pub left-none : (form : Form) (lists : EstateLists) (sides : List ShownSide) (i : ℕ) (came : Bool) → length sides ≤ i
    → text_to_come form came (flat_map (side_rows lists) (drop i sides)) ≡ form.end came
left-none form lists sides i came within = ap (λ (left : List ShownSide). text_to_come form came (flat_map (side_rows lists) left)) (drop-ended sides i within)
