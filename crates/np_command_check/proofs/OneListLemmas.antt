-- A file has one list of statements. For OneFindingLemmas.
use Rattle.std.proofs.Common.{◌≡◌, ◌≢◌, ℕ, List, [], ◌++◌, Contains, sym, ap, subst, ◌∙◌, arith}
use Rattle.std.specs.List.{slice_get}
use Rattle.std.proofs.lemmas.List.Elements.{All-contains}
use Rattle.std.proofs.lemmas.Option.{same_Some}
use Rattle.np_addr.proofs.SameLists.{same_elements_same_lists}
use Rattle.np_statements.proofs.OneStatement.{one_statement}
use Rattle.np_statements.specs.Prelude.{IsLineOf, IsStatementText, lines_of, wanted_text}
use Rattle.np_check.specs.declared.question.Wanted.{Wanted}
use Rattle.np_check.specs.declared.question.Wanted.TheVariants.{Allow, Deny}
use Rattle.np_command_check.proofs.FileLemmas.{part-of, IsAbove}
use Rattle.np_command_check.specs.Prelude.{AreLinesOf, StandsInFile, StatementLine}

-- ---- the order of statements

-- of two statements one alone stands above the other
one-way : (one other : StatementLine) → IsAbove one other → IsAbove other one → ⊥
one-way one other above below = omega (arith, above, below)

-- ---- the statements of a file

-- the line of a number is one text
one-line : (bytes : List ℕ) (number : ℕ) (text other : List ℕ) → IsLineOf bytes number text → IsLineOf bytes number other → text ≡ other
one-line bytes number text other is is' =
    let (k, counted, at) = part-of bytes number text is in
    let (n, counted', at') = part-of bytes number other is' in
    let same : k ≡ n = omega (arith, counted, counted') in
    same_Some text other (sym at ∙ ap (slice_get (lines_of bytes)) same ∙ at')

-- a statement has a text
filled : (wanted : Wanted) (text rest : List ℕ) → text ≡ wanted_text wanted ++ rest → text ≢ []
filled Allow text rest is none = cc
filled Deny text rest is none = cc

line-equal : (line other : StatementLine) → line.line ≡ other.line → line.statement ≡ other.statement → line ≡ other
line-equal line other number statement = grind arith

-- a statement is in every list of them
among : (bytes : List ℕ) (lines others : List StatementLine) → AreLinesOf bytes lines → AreLinesOf bytes others → (line : StatementLine) → Contains lines line → Contains others line
among bytes lines others are are' line has =
    let (text, at, said) = All-contains (StandsInFile bytes) lines line are.each has in
    let (other, has', number) = are'.every line.line text at (filled line.statement.wanted text _ said.1.spelled) in
    let (text', at', said') = All-contains (StandsInFile bytes) others other are'.each has' in
    let same : text' ≡ text = one-line bytes line.line text' text (subst (λ (n : ℕ). IsLineOf bytes n text') number at') at in
    let statement : other.statement ≡ line.statement = one_statement text other.statement line.statement
    (subst (λ (t : List ℕ). IsStatementText t other.statement) same said'.1) said.1 in
    subst (Contains others) (line-equal other line number statement) has'

pub one-list : (bytes : List ℕ) (lines others : List StatementLine) → AreLinesOf bytes lines → AreLinesOf bytes others → lines ≡ others
one-list bytes lines others are are' =
    same_elements_same_lists IsAbove one-way lines others are.order are'.order (among bytes lines others are are') (among bytes others lines are' are)
