-- Sides by the numbers of workloads, and the same by the workloads. For PromiseLemmas.
use Rattle.std.proofs.Common.{◌≡◌, ◌≢◌, ◌<◌, ◌≤◌, ◌+◌, ◌-◌, ◌^◌, ℕ, zero, suc, List, [], ◌∷◌, ◌++◌, length, drop, get_or, flat_map, map, min, nat_lt, if◌then◌else◌, Bool, true, false, Contains, Option, None, Some, Result, Ok, Err, arith, refl, sym, ap, subst, ◌∙◌, slice_index}
use Rattle.std.proofs.Math.Seq.{drop-cons}
use Rattle.std.proofs.lemmas.Bool.{true≢false}
use Rattle.std.proofs.lemmas.Bool.Decides.{nat_tests}
use Rattle.std.proofs.lemmas.List.Elements.{All-contains, All-from_recursion, Contains-get_or}
use Rattle.std.proofs.lemmas.List.Folds.{list_any_at}
use Rattle.std.proofs.lemmas.Option.{slice_get-get_or}
use Rattle.std.proofs.lemmas.Slice.Eq.{bytes_eq-Decides}
use Rattle.std.specs.List.{AllByRecursion, range_with_len, list_all}
use Rattle.std.specs.Option.{option_map_or}
use Rattle.std.specs.Str.{bytes_eq}
use Rattle.np_classes.proofs.Lists.{no_position}
use Rattle.np_command.specs.Prelude.{or_unknown}
use Rattle.np_command_exposure.specs.Types.{Direction, EstateLists, ExposureRow, Fault, RowText, ShownSide, Stranger, TooManyPatterns, UnknownEnd}
use Rattle.np_command.proofs.EndLemmas.{no_workload, found-named}
use Rattle.np_command_exposure.proofs.ExposureLemmas.{both-none, few-at}
use Rattle.np_command_exposure.specs.Promise.{AreAsked, IsFirstOver, SaysWhatIsExposed, WorkloadSide, sides_of, weight_of}
use Rattle.np_command_exposure.specs.Report.{both_sides, exposure_row_text, first_fault, or_later, side_rows, sides_shown, weight_at, weight_fault}
use Rattle.np_exposure.proofs.LeftLemmas.{rows_of-are}
use Rattle.np_exposure.proofs.RightLemmas.{each_row-first, first_row-tells}
use Rattle.np_exposure.proofs.WellLemmas.{rows_of-well}
use Rattle.np_command_exposure.proofs.WorkloadLemmas.{workload-rows}
use Rattle.np_exposure.specs.Prelude.{FirstRowTells, are_well, is_hypothetical, mentions, rows_of, weight}
use Rattle.np_exposure.specs.declared.exposures.TheConstants.{MOST_PATTERNS}
use Rattle.np_fold.specs.Prelude.{Workload, folding_of, members_of, name_of_workload, number_named, workloads_of}
use Rattle.np_model.specs.Prelude.{IsLawful}
use Rattle.np_rules.specs.Prelude.{PodSide, side_of}
use Rattle.np_kinds.proofs.MemberLemmas.{member-number, members-some, members-within, source-member}
use Rattle.np_kinds.specs.Prelude.{IsWorkload, source_pod}

-- ---- the workload of a number

-- the number is that of the workload
pub record IsNumberOf (lists : EstateLists) (number : ℕ) (one : Workload) : Type 0 where
  pub within : IsWorkload lists number
  pub name : name_of_workload (folding_of lists) number ≡ one.name
  pub members : members_of (folding_of lists) number ≡ one.members

-- each number has a workload
number-of : (lists : EstateLists) (number : ℕ) (d : Workload) → number < length (workloads_of lists) → IsNumberOf lists number (get_or (workloads_of lists) number d)
unfolding folding_of
number-of lists number d within = record {
  within = within;
  name = ap (λ (found : Option Workload). option_map_or (λ (one : Workload). one.name) found []) (slice_get-get_or (workloads_of lists) number d within);
  members = ap (λ (found : Option Workload). option_map_or (λ (one : Workload). one.members) found []) (slice_get-get_or (workloads_of lists) number d within);
}

-- ---- sides that are the same

-- a side by a number is that of a workload
pub record IsSideOf (lists : EstateLists) (shown : ShownSide) (side : WorkloadSide) : Type 0 where
  pub number : IsNumberOf lists shown.workload side.workload
  pub direction : shown.direction ≡ side.direction

-- so are those of one list, one by one, those of the other
abbrev pub AreSidesOf : EstateLists → List ShownSide → List WorkloadSide → Type 0
AreSidesOf lists [] [] = Unit {0}
AreSidesOf lists [] (side ∷ sides) = ⊥
AreSidesOf lists (shown ∷ more) [] = ⊥
AreSidesOf lists (shown ∷ more) (side ∷ sides) = IsSideOf lists shown side × AreSidesOf lists more sides

-- both sides of a workload are
both-are : (lists : EstateLists) (number : ℕ) (one : Workload) → IsNumberOf lists number one → AreSidesOf lists (both_sides number) (sides_of one)
both-are lists number one is = (record { number = is; direction = refl }, (record { number = is; direction = refl }, tt))

-- and those of all of them
all-are : (lists : EstateLists) (number : ℕ) (left : List Workload) → drop number (workloads_of lists) ≡ left → number + length left ≡ length (workloads_of lists)
    → AreSidesOf lists (flat_map both_sides (range_with_len number (length left))) (flat_map sides_of left)
all-are lists number [] left_is count = tt
all-are lists number (one ∷ left) left_is count =
    let ws = workloads_of lists in
    let within : number < length ws = omega (arith, count) in
    let split : drop number ws ≡ get_or ws number one ∷ drop (suc number) ws = drop-cons ws number one within in
    let joined = sym split ∙ left_is in
    let first : get_or ws number one ≡ one = head-same joined in
    let rest : drop (suc number) ws ≡ left = tail-same joined in
    let next : suc number ≡ number + 1 = omega arith in
    let here : IsNumberOf lists number one = subst (IsNumberOf lists number) first (number-of lists number one within) in (
      record { number = here; direction = refl },
      (
        record { number = here; direction = refl },
        all-are lists (number + 1) left (ap (λ (n : ℕ). drop n ws) (sym next) ∙ rest) (omega (arith, count)),
      ),
    )
  where
    head-same : {x y : Workload} {xs ys : List Workload} → x ∷ xs ≡ y ∷ ys → x ≡ y
    head-same same = cc

    tail-same : {x y : Workload} {xs ys : List Workload} → x ∷ xs ≡ y ∷ ys → xs ≡ ys
    tail-same same = cc

-- ---- what is asked for

-- a result gives one thing
one_ok : (found : Result (List ShownSide) Fault) (a b : List ShownSide) → found ≡ Ok a → found ≡ Ok b → a ≡ b
one_ok found a b is is' = cc

-- all sides are those of all workloads
all-shown : (lists : EstateLists) (shown : List ShownSide) → sides_shown None lists ≡ Ok shown → AreSidesOf lists shown (flat_map sides_of (workloads_of lists))
unfolding sides_shown folding_of
all-shown lists shown is =
    let all : List ShownSide = flat_map both_sides (range_with_len 0 (length (workloads_of lists))) in
    let same : all ≡ shown = one_ok (sides_shown None lists) all shown refl is in
    subst (λ (some : List ShownSide). AreSidesOf lists some (flat_map sides_of (workloads_of lists))) same (all-are lists 0 (workloads_of lists) refl (omega arith))

-- a name without a number is no workload's
unnamed : (lists : EstateLists) (name : List ℕ) → number_named (folding_of lists) name ≡ None → (one : Workload) → Contains (workloads_of lists) one → one.name ≡ name → ⊥
unfolding folding_of
unnamed lists name none one has named =
    let test : Workload → Bool = λ w. bytes_eq w.name name in
    let at = get_or (workloads_of lists) has.0 one in
    let passes : test at ≡ true = (bytes_eq-Decides at.name name).1 (ap (λ (w : Workload). w.name) has.2 ∙ named) in
    true≢false (sym (list_any_at test (workloads_of lists) has.0 one has.1 passes) ∙ no_position test (workloads_of lists) none)

-- the sides of one are those of the workload of the name
one-shown : (lists : EstateLists) (name : List ℕ) (number : ℕ) (shown : List ShownSide) → number_named (folding_of lists) name ≡ Some number → both_sides number ≡ shown
    → (sides : List WorkloadSide) × AreAsked lists (Some name) sides × AreSidesOf lists shown sides
one-shown lists name number shown found same =
    let ws = workloads_of lists in
    let told = found-named lists name number no_workload found in
    let one = get_or ws number no_workload in
    let are = both-are lists number one (number-of lists number no_workload told.0) in
    (sides_of one, (one, Contains-get_or ws number no_workload told.0, told.1, refl), subst (λ (all : List ShownSide). AreSidesOf lists all (sides_of one)) same are)

-- the sides that are shown are those that are asked for
pub asked-sides : (lists : EstateLists) (workload : Option (List ℕ)) (shown : List ShownSide) → sides_shown workload lists ≡ Ok shown
    → (sides : List WorkloadSide) × AreAsked lists workload sides × AreSidesOf lists shown sides
unfolding sides_shown
asked-sides lists None shown is = (flat_map sides_of (workloads_of lists), refl, all-shown lists shown is)
asked-sides lists (Some name) shown is = by (number_named (folding_of lists) name) refl is
  where
    by : (found : Option ℕ) → number_named (folding_of lists) name ≡ found → or_unknown name both_sides found ≡ Ok shown
        → (sides : List WorkloadSide) × AreAsked lists (Some name) sides × AreSidesOf lists shown sides
    by None found is = absurd (cc)
    by (Some number) found is = one-shown lists name number shown found (one_ok (Ok (both_sides number)) (both_sides number) shown refl is)

-- sides that are not told are of a name that no workload has
pub unknown-name : (lists : EstateLists) (workload : Option (List ℕ)) (fault : Fault) → sides_shown workload lists ≡ Err fault
    → (name : List ℕ) × (workload ≡ Some name) × ((one : Workload) → Contains (workloads_of lists) one → one.name ≢ name) × (fault ≡ UnknownEnd name)
unfolding sides_shown
unknown-name lists None fault is = absurd (cc)
unknown-name lists (Some name) fault is = by (number_named (folding_of lists) name) refl is
  where
    by : (found : Option ℕ) → number_named (folding_of lists) name ≡ found → or_unknown name both_sides found ≡ Err fault
        → (other : List ℕ) × (Some name ≡ Some other) × ((one : Workload) → Contains (workloads_of lists) one → one.name ≢ other) × (fault ≡ UnknownEnd other)
    by None found is = (name, refl, unnamed lists name found, cc)
    by (Some number) found is = absurd (cc)

-- ---- rows

-- the rows of a side: those of the first pod
abbrev pub rows_at : EstateLists → WorkloadSide → List ExposureRow
rows_at lists side = rows_of (side_of lists (slice_index side.workload.members 0) side.direction)

-- the texts of the rows of a side
abbrev pub texts_of_side : (WorkloadSide → List ExposureRow) → WorkloadSide → List RowText
texts_of_side rows side = map (exposure_row_text side.workload.name side.direction) (rows side)

-- the texts of a side's rows are the same by the number and by the workload
rows-same : (lists : EstateLists) (shown : ShownSide) (side : WorkloadSide) → IsSideOf lists shown side → side_rows lists shown ≡ texts_of_side (rows_at lists) side
unfolding side_rows
rows-same lists shown side is =
    let texts : List ℕ → List ℕ → Direction → List RowText = λ name members direction. map (exposure_row_text name direction) (rows_of (side_of lists (slice_index members 0) direction)) in
    let pods = members_of (folding_of lists) shown.workload in
    ap (λ (name : List ℕ). texts name pods shown.direction) is.number.name
    ∙ ap (λ (members : List ℕ). texts side.workload.name members shown.direction) is.number.members
    ∙ ap (λ (direction : Direction). texts side.workload.name side.workload.members direction) is.direction

pub all_rows-same : (lists : EstateLists) (shown : List ShownSide) (sides : List WorkloadSide) → AreSidesOf lists shown sides
    → flat_map (side_rows lists) shown ≡ flat_map (texts_of_side (rows_at lists)) sides
all_rows-same lists [] [] are = refl
all_rows-same lists [] (side ∷ sides) are = absurd are
all_rows-same lists (one ∷ shown) [] are = absurd are
all_rows-same lists (one ∷ shown) (side ∷ sides) are =
    ap (λ (texts : List RowText). texts ++ flat_map (side_rows lists) shown) (rows-same lists one side are.0)
    ∙ ap (λ (texts : List RowText). texts_of_side (rows_at lists) side ++ texts) (all_rows-same lists shown sides are.1)

-- and they say what is exposed
says-at : (lists : EstateLists) (shown : ShownSide) (side : WorkloadSide) → IsLawful lists → IsSideOf lists shown side → SaysWhatIsExposed lists side (rows_at lists side)
says-at lists shown side lawful is = (each_row-first near (rows_of near) (rows_of-are near), tells)
  where
    near : PodSide
    near = side_of lists (slice_index side.workload.members 0) side.direction

    number : ℕ
    number = shown.workload

    within : IsWorkload lists number
    within = is.number.within

    pod-in : (p : ℕ) → Contains (members_of (folding_of lists) number) p → p < length lists.pods
    pod-in p has = members-within lists (folding_of lists) number p refl within has

    first-has : Contains (members_of (folding_of lists) number) (source_pod (folding_of lists) number)
    first-has = source-member (folding_of lists) number (members-some lists (folding_of lists) number refl within)

    tells : (p : ℕ) (s : Stranger) → Contains side.workload.members p → is_hypothetical s ≡ true → FirstRowTells (side_of lists p side.direction) (rows_of near) s
    tells p s member named =
        let has : Contains (members_of (folding_of lists) number) p = subst (λ (pods : List ℕ). Contains pods p) (sym is.number.members) member in
        let first = source_pod (folding_of lists) number in
        let first_is : first ≡ slice_index side.workload.members 0 = ap (λ (pods : List ℕ). slice_index pods 0) is.number.members in
        let same = member-number lists number first (pod-in first first-has) first-has ∙ sym (member-number lists number p (pod-in p has) has) in
        let rows = workload-rows lists first p side.direction lawful (pod-in first first-has) (pod-in p has) same in
        let here : rows_of near ≡ rows_of (side_of lists p side.direction) = ap (λ (q : ℕ). rows_of (side_of lists q side.direction)) (sym first_is) ∙ rows in
        let far = side_of lists p side.direction in
        subst (λ (all : List ExposureRow). FirstRowTells far all s) (sym here) (first_row-tells far (rows_of far) s (rows_of-are far) named)

says-each : (lists : EstateLists) (shown : List ShownSide) (sides : List WorkloadSide) → IsLawful lists → AreSidesOf lists shown sides
    → AllByRecursion (λ side. SaysWhatIsExposed lists side (rows_at lists side)) sides
says-each lists [] [] lawful are = tt
says-each lists [] (side ∷ sides) lawful are = absurd are
says-each lists (one ∷ shown) [] lawful are = absurd are
says-each lists (one ∷ shown) (side ∷ sides) lawful are = (says-at lists one side lawful are.0, says-each lists shown sides lawful are.1)

pub says-all : (lists : EstateLists) (shown : List ShownSide) (sides : List WorkloadSide) → IsLawful lists → AreSidesOf lists shown sides
    → (side : WorkloadSide) → Contains sides side → SaysWhatIsExposed lists side (rows_at lists side)
says-all lists shown sides lawful are side has =
    let P : WorkloadSide → Type 0 = λ one. SaysWhatIsExposed lists one (rows_at lists one) in
    All-contains P sides side (All-from_recursion P sides (says-each lists shown sides lawful are)) has

-- the requirements of lawful lists are as policies have them
pub well-at : (lists : EstateLists) → IsLawful lists → (side : WorkloadSide) → list_all (λ row. are_well row.requirements) (rows_at lists side) ≡ true
well-at lists lawful side =
    let near : PodSide = side_of lists (slice_index side.workload.members 0) side.direction in
    rows_of-well near (rows_of near) lawful.well (rows_of-are near)

-- ---- how much of it

-- a side has one weight by the number and by the workload
weight-same : (lists : EstateLists) (shown : ShownSide) (side : WorkloadSide) → IsSideOf lists shown side → weight_at lists shown ≡ weight_of lists side
weight-same lists shown side is =
    let weighed : List ℕ → Direction → ℕ = λ members direction. weight (mentions (side_of lists (slice_index members 0) direction)) in
    ap (λ (members : List ℕ). weighed members shown.direction) is.number.members ∙ ap (λ (direction : Direction). weighed side.workload.members direction) is.direction

few-each : (lists : EstateLists) (shown : List ShownSide) (sides : List WorkloadSide) → AreSidesOf lists shown sides → first_fault lists shown ≡ None
    → AllByRecursion (λ side. weight_of lists side ≤ MOST_PATTERNS) sides
few-each lists [] [] are none = tt
few-each lists [] (side ∷ sides) are none = absurd are
few-each lists (one ∷ shown) [] are none = absurd are
few-each lists (one ∷ shown) (side ∷ sides) are none =
    let parts = both-none (weight_fault lists one) (first_fault lists shown) none in
    (subst (λ (n : ℕ). n ≤ MOST_PATTERNS) (weight-same lists one side are.0) (few-at lists one parts.0), few-each lists shown sides are.1 parts.1)

-- sides without a fault have few patterns
pub few-sides : (lists : EstateLists) (shown : List ShownSide) (sides : List WorkloadSide) → AreSidesOf lists shown sides → first_fault lists shown ≡ None
    → (side : WorkloadSide) → Contains sides side → weight_of lists side ≤ MOST_PATTERNS
few-sides lists shown sides are none side has =
    let P : WorkloadSide → Type 0 = λ one. weight_of lists one ≤ MOST_PATTERNS in
    All-contains P sides side (All-from_recursion P sides (few-each lists shown sides are none)) has

-- the fault of a side is that of its weight
over-at : (lists : EstateLists) (shown : ShownSide) (fault : Fault) → weight_fault lists shown ≡ Some fault
    → (MOST_PATTERNS < weight_at lists shown) × (fault ≡ TooManyPatterns (name_of_workload (folding_of lists) shown.workload) shown.direction (min (weight_at lists shown) (2 ^ 64 - 1)))
unfolding weight_fault
over-at lists shown fault is = by (nat_lt MOST_PATTERNS (weight_at lists shown)) refl is
  where
    told : Fault
    told = TooManyPatterns (name_of_workload (folding_of lists) shown.workload) shown.direction (min (weight_at lists shown) (2 ^ 64 - 1))

    by : (over : Bool) → nat_lt MOST_PATTERNS (weight_at lists shown) ≡ over → (if over then Some told else None) ≡ Some fault
        → (MOST_PATTERNS < weight_at lists shown) × (fault ≡ told)
    by true over is = (grind (arith, nat_tests, over), cc)
    by false over is = absurd (cc)

fault-same : (lists : EstateLists) (shown : ShownSide) (side : WorkloadSide) → IsSideOf lists shown side
    → TooManyPatterns (name_of_workload (folding_of lists) shown.workload) shown.direction (min (weight_at lists shown) (2 ^ 64 - 1))
    ≡ TooManyPatterns side.workload.name side.direction (min (weight_of lists side) (2 ^ 64 - 1))
fault-same lists shown side is =
    ap (λ (name : List ℕ). TooManyPatterns name shown.direction (min (weight_at lists shown) (2 ^ 64 - 1))) is.number.name
    ∙ ap (λ (direction : Direction). TooManyPatterns side.workload.name direction (min (weight_at lists shown) (2 ^ 64 - 1))) is.direction
    ∙ ap (λ (n : ℕ). TooManyPatterns side.workload.name side.direction (min n (2 ^ 64 - 1))) (weight-same lists shown side is)

few-more : (P : WorkloadSide → Type 0) (x : WorkloadSide) (xs : List WorkloadSide) → P x → ((y : WorkloadSide) → Contains xs y → P y) → (y : WorkloadSide) → Contains (x ∷ xs) y → P y
few-more P x xs here rest y (zero, within, is) = subst P is here
few-more P x xs here rest y (suc k, within, is) = rest y (k, omega (arith, within), is)

none-in : (P : WorkloadSide → Type 0) (y : WorkloadSide) → Contains [] y → P y
none-in P y has = absurd (omega (arith, has.1))

-- the first fault is that of the first side that has too many patterns
pub first-over : (lists : EstateLists) (shown : List ShownSide) (sides : List WorkloadSide) (fault : Fault) → AreSidesOf lists shown sides → first_fault lists shown ≡ Some fault
    → IsFirstOver lists sides fault
first-over lists [] [] fault are is = absurd (cc)
first-over lists [] (side ∷ sides) fault are is = absurd are
first-over lists (one ∷ shown) [] fault are is = absurd are
first-over lists (one ∷ shown) (side ∷ sides) fault are is = by (weight_fault lists one) refl is (first-over lists shown sides fault are.1)
  where
    by : (found : Option Fault) → weight_fault lists one ≡ found → or_later found (first_fault lists shown) ≡ Some fault
        → (first_fault lists shown ≡ Some fault → IsFirstOver lists sides fault) → IsFirstOver lists (side ∷ sides) fault
    by (Some other) here is later =
        let told = over-at lists one other here in
        let same : other ≡ fault = cc in record {
          before = [];
          side = side;
          after = sides;
          stands = refl;
          few = none-in (λ (other : WorkloadSide). weight_of lists other ≤ MOST_PATTERNS);
          over = subst (λ (n : ℕ). MOST_PATTERNS < n) (weight-same lists one side are.0) told.0;
          told = sym same ∙ told.1 ∙ fault-same lists one side are.0;
        }
    by None here is later =
        let rest = later is in
        let first : weight_of lists side ≤ MOST_PATTERNS = subst (λ (n : ℕ). n ≤ MOST_PATTERNS) (weight-same lists one side are.0) (few-at lists one here) in record {
          before = side ∷ rest.before;
          side = rest.side;
          after = rest.after;
          stands = ap (λ (others : List WorkloadSide). side ∷ others) rest.stands;
          few = few-more (λ (other : WorkloadSide). weight_of lists other ≤ MOST_PATTERNS) side rest.before first rest.few;
          over = rest.over;
          told = rest.told;
        }
