-- What is found of statements, line by line. For `first_broken` and crates above.
use Rattle.std.proofs.Common.{◌≡◌, ℕ, ◌+◌, ◌<◌, ◌≤◌, List, ◌∷◌, true, false, Option, Some, None, Result, Ok, Err, drop, get_or, is_some, length, refl, sym, ap, ◌∙◌}
use Rattle.std.specs.Option.{option_or}
use Rattle.std.specs.Prelude.{IsOk}
use Rattle.std.proofs.lemmas.Bool.{false≢true, true≢false}
use Rattle.std.proofs.lemmas.List.{at_drop_more, drop_all}
use Rattle.np_check.specs.Prelude.{first_given}
use Rattle.np_statements.specs.Prelude.{AskedLine, Broken, EndFault, EstateLists, GivesEnds, IsAsked, IsWellLine, StatementLine, asked_line, broken_among, broken_of, ends_found, first_broken, ◌>>=◌}
use Rattle.np_statements.proofs.FoundLemmas.{asked-by, asked-known, found-behind, length-found}
use Rattle.np_statements.proofs.StepLemmas.{same_ok, then-ok}
use Rattle.np_statements.specs.declared.end_fault.EndFault.TheVariants.{NoMemory, UnknownEnd}

-- ---- the first of some lines

-- the first of all broken lines, by what is found of the first line and what is asked by the others
first_by : EstateLists → Result AskedLine (List ℕ) → Result (List AskedLine) (List ℕ) → Result (Option Broken) (List ℕ)
first_by lists one rest = (one >>= (λ first. rest >>= (λ others. Ok (first ∷ others)))) >>= (λ asked. Ok (first_given (broken_of lists) asked))

-- what is found of lines from one on is found by that line
among_at : (lists : EstateLists) (lines : List StatementLine) (i : ℕ) (line : StatementLine) → (i < length lines) × (line ≡ get_or lines i line) →
    broken_among lists (drop i lines) ≡ first_by lists (asked_line lists line) (ends_found lists (drop (i + 1) lines))
unfolding broken_among first_broken first_by
among_at lists lines i line (within, is) =
    at_drop_more (broken_among lists) lines i line within
    ∙ ap (λ (one : StatementLine). first_by lists (asked_line lists one) (ends_found lists (drop (i + 1) lines))) (sym is)

behind_unbroken : (lists : EstateLists) (one : AskedLine) (rest : Result (List AskedLine) (List ℕ)) → None ≡ broken_of lists one →
    first_by lists (Ok one) rest ≡ (rest >>= (λ asked. Ok (first_given (broken_of lists) asked)))
unfolding first_by
behind_unbroken lists one (Ok others) none = ap (λ (first : Option Broken). Ok (option_or first (first_given (broken_of lists) others))) (sym none)
behind_unbroken lists one (Err name) none = refl

is_none : {X : Type 0} (found : Option X) → is_some found ≡ false → found ≡ None
is_none None none = refl
is_none (Some x) none = absurd (true≢false none)

is_first : {X : Type 0} (found rest : Option X) → is_some found ≡ true → option_or found rest ≡ found
is_first None rest some = absurd (false≢true some)
is_first (Some x) rest some = refl

-- ---- in a loop

-- what is found of all lines is found of those from one on
abbrev pub IsLeft : EstateLists → List StatementLine → ℕ → Type 0
IsLeft lists lines i = broken_among lists (drop i lines) ≡ broken_among lists lines

-- a line that holds is left out
pub one_left : (lists : EstateLists) (lines : List StatementLine) (i next : ℕ) (line : StatementLine) (asked : AskedLine) (found : Option Broken) → (i < length lines) × (line ≡ get_or lines i line) →
    IsLeft lists lines i → asked_line lists line ≡ Ok asked → found ≡ broken_of lists asked → is_some found ≡ false → next ≡ i + 1 → IsLeft lists lines next
unfolding broken_among first_broken
one_left lists lines i next line asked found turn left asks is none later =
    ap (λ (k : ℕ). broken_among lists (drop k lines)) later
    ∙ sym (among_at lists lines i line turn
    ∙ ap (λ (one : Result AskedLine (List ℕ)). first_by lists one (ends_found lists (drop (i + 1) lines))) asks
    ∙ behind_unbroken lists asked (ends_found lists (drop (i + 1) lines)) (sym (is_none found none) ∙ is))
    ∙ left

-- the first that does not hold is found, where all ends are
pub one_broken : (lists : EstateLists) (lines : List StatementLine) (i : ℕ) (line : StatementLine) (asked : AskedLine) (found : Option Broken) → (i < length lines) × (line ≡ get_or lines i line) →
    IsLeft lists lines i → IsOk (ends_found lists lines) → asked_line lists line ≡ Ok asked → found ≡ broken_of lists asked → is_some found ≡ true → broken_among lists lines ≡ Ok found
unfolding first_by
one_broken lists lines i line asked found turn left known asks is some =
    let others = found-behind lists lines (i + 1) known in
    sym left ∙ among_at lists lines i line turn
    ∙ ap (λ (one : Result AskedLine (List ℕ)). first_by lists one (ends_found lists (drop (i + 1) lines))) asks
    ∙ ap (first_by lists (Ok asked)) others.1
    ∙ ap (λ (first : Option Broken). Ok (option_or first (first_given (broken_of lists) others.0))) (sym is)
    ∙ ap Ok (is_first found (first_given (broken_of lists) others.0) some)

-- a name that no workload has
pub name_unknown : (lists : EstateLists) (lines : List StatementLine) (name : List ℕ) → ends_found lists lines ≡ Err name → broken_among lists lines ≡ Err name
unfolding broken_among
name_unknown lists lines name unknown = ap (λ (found : Result (List AskedLine) (List ℕ)). found >>= (λ asked. Ok (first_broken lists asked))) unknown

pub line_unknown : (lists : EstateLists) (lines : List StatementLine) (i : ℕ) (line : StatementLine) (fault : EndFault) → (i < length lines) × (line ≡ get_or lines i line) → IsLeft lists lines i →
    GivesEnds {X = AskedLine} (Err fault) (asked_line lists line) → GivesEnds {X = Option Broken} (Err fault) (broken_among lists lines)
unfolding first_by
line_unknown lists lines i line (UnknownEnd name) turn left unknown =
    sym left ∙ among_at lists lines i line turn
    ∙ ap (λ (one : Result AskedLine (List ℕ)). first_by lists one (ends_found lists (drop (i + 1) lines))) unknown
line_unknown lists lines i line NoMemory turn left unknown = tt

-- behind the last line none is left
pub none_broken : (lists : EstateLists) (lines : List StatementLine) (i : ℕ) → length lines ≤ i → IsLeft lists lines i → broken_among lists lines ≡ Ok None
unfolding broken_among first_broken
none_broken lists lines i behind left = sym left ∙ ap (broken_among lists) (drop_all i lines behind)

-- what a line asks is known
pub known-line : (lists : EstateLists) (line : StatementLine) (asked : AskedLine) → IsWellLine line → asked_line lists line ≡ Ok asked → IsAsked lists asked
known-line lists line asked well asks = asked-known lists line asked well (asked-by lists line asked asks)

-- ---- by what all lines ask

pub record IsFoundAmong (lists : EstateLists) (lines : List StatementLine) (broken : Option Broken) : Type 0 where
  pub asked : List AskedLine
  pub found : ends_found lists lines ≡ Ok asked
  pub many : length asked ≡ length lines
  pub first : first_broken lists asked ≡ broken

pub among-found : (lists : EstateLists) (lines : List StatementLine) (broken : Option Broken) → broken_among lists lines ≡ Ok broken → IsFoundAmong lists lines broken
unfolding broken_among
among-found lists lines broken is =
    let (asked, found, last) = then-ok (ends_found lists lines) (λ all. Ok (first_broken lists all)) broken is in
    record { asked = asked; found = found; many = length-found lists lines asked found; first = same_ok (first_broken lists asked) broken last }

pub among-unknown : (lists : EstateLists) (lines : List StatementLine) (name : List ℕ) → broken_among lists lines ≡ Err name → ends_found lists lines ≡ Err name
unfolding broken_among
among-unknown lists lines name is = of (ends_found lists lines) refl is
  where
    same_name : (other : List ℕ) → ◌≡◌ {A = Result (Option Broken) (List ℕ)} (Err other) (Err name) → other ≡ name
    same_name other is = cc

    of : (found : Result (List AskedLine) (List ℕ)) → ends_found lists lines ≡ found → (found >>= (λ asked. Ok (first_broken lists asked))) ≡ Err name → ends_found lists lines ≡ Err name
    of (Ok asked) here is = cc
    of (Err other) here is = here ∙ ap Err (same_name other is)
