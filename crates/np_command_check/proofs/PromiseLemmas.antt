-- Statements of a file, and what is found of them. For crates above.
use Rattle.std.proofs.Common.{◌≡◌, ℕ, List, Option, None, Some, Result, Ok, Err, codes, decimal, ◌++◌, refl, subst, true, false}
use Rattle.std.specs.Prelude.{All, drop}
use Rattle.std.proofs.lemmas.Option.{none-some, same_Some}
use Rattle.np_command.specs.Prelude.{SinkTrace, TookWhole, fault_in, lists_of, text_in}
use Rattle.np_command_check.specs.Prelude.{AskedLine, BadStatement, Broken, ChecksAll, EstateLists, Fault, FindsBroken, IsAskedOf, IsFirstBrokenLine, RefusesCheck, StatementLine, UnknownEnd, all_hold, asked_in, asked_lines, check_reply, finding_of, hold_in, line_fault, name_fault, statement_bytes}
use Rattle.np_command_check.proofs.BrokenLemmas.{first-line}
use Rattle.np_command_check.proofs.FileLemmas.{first-bad, lines-of}
use Rattle.np_command_check.proofs.KnownLemmas.{first-unknown, forms-known}
use Rattle.np_model.specs.Prelude.{IsLawful}
use Rattle.np_statements.proofs.BrokenLemmas.{first-is, nothing-broken}
use Rattle.np_statements.proofs.FoundLemmas.{length-found}
use Rattle.np_statements.proofs.LineLemmas.{statements-well}
use Rattle.np_statements.specs.Prelude.{IsWellLine, ends_found, first_broken, statements_of}

-- ---- what is asked

-- what is asked was read of lines
record IsOfLines (bytes : List ℕ) (lists : EstateLists) (asked : List AskedLine) : Type 0 where
  pub lines : List StatementLine
  pub read : statements_of bytes ≡ Ok lines
  pub found : ends_found lists lines ≡ Ok asked

names-known : (bytes : List ℕ) (lists : EstateLists) (lines : List StatementLine) (asked : List AskedLine) (found : Result (List AskedLine) (List ℕ)) → statements_of bytes ≡ Ok lines →
    ends_found lists lines ≡ found → name_fault found ≡ Ok asked → IsOfLines bytes lists asked
names-known bytes lists lines asked (Err name) read found is = absurd (cc)
names-known bytes lists lines asked (Ok own) read found is =
    let same : own ≡ asked = cc in
    record { lines = lines; read = read; found = subst (λ (one : List AskedLine). ends_found lists lines ≡ Ok one) same found }

lines-known : (bytes : List ℕ) (lists : EstateLists) (asked : List AskedLine) (found : Result (List StatementLine) ℕ) → statements_of bytes ≡ found → asked_lines lists (line_fault found) ≡ Ok asked →
    IsOfLines bytes lists asked
lines-known bytes lists asked (Err line) read is = absurd (cc)
lines-known bytes lists asked (Ok lines) read is = names-known bytes lists lines asked (ends_found lists lines) read refl is

asked-lines : (bytes : List ℕ) (lists : EstateLists) (asked : List AskedLine) → asked_in bytes lists ≡ Ok asked → IsOfLines bytes lists asked
unfolding asked_in
asked-lines bytes lists asked is = lines-known bytes lists asked (statements_of bytes) refl is

first-known : (lists : EstateLists) (lines : List StatementLine) (asked : List AskedLine) (broken : Broken) → IsLawful lists → All IsWellLine lines → ends_found lists lines ≡ Ok asked →
    first_broken lists asked ≡ Some broken → IsFirstBrokenLine lists lines broken
unfolding first_broken
first-known lists lines asked broken lawful well found is = first-line lists lines broken lawful (first-is lists lines asked broken lawful well found is)

-- what is asked of an estate, as the lines of the file have it
asked-is : (texts : List (List ℕ)) (lists : EstateLists) (lines : List StatementLine) (asked : List AskedLine) → lists_of (drop 1 texts) ≡ Ok lists → IsLawful lists →
    statements_of (statement_bytes texts) ≡ Ok lines → ends_found lists lines ≡ Ok asked → IsAskedOf texts lists lines
asked-is texts lists lines asked read lawful lines_are found =
    record { read = read; lines_are = lines-of (statement_bytes texts) lines lines_are; known = forms-known lists lines asked lawful found }

-- ---- what is said

says-done : (out : SinkTrace) (texts : List (List ℕ)) (lists : EstateLists) (found : Result (List AskedLine) Fault) → lists_of (drop 1 texts) ≡ Ok lists → IsLawful lists
    → asked_in (statement_bytes texts) lists ≡ found → hold_in lists found ≡ true → fault_in (finding_of lists found) ≡ None → TookWhole out (text_in (finding_of lists found)) → ChecksAll out texts
says-done out texts lists (Err fault) read lawful is ended no_fault took = absurd (cc)
says-done out texts lists (Ok asked) read lawful is ended no_fault took = by (first_broken lists asked) refl ended took
  where
    by : (broken : Option Broken) → first_broken lists asked ≡ broken → hold_in lists (Ok asked) ≡ true → TookWhole out (text_in (finding_of lists (Ok asked))) → ChecksAll out texts
    by (Some broken) found ended took = absurd (let wrong = rw found at ended in cc)
    by None found ended took =
        let of_lines = asked-lines (statement_bytes texts) lists asked is in
        let well = statements-well (statement_bytes texts) of_lines.lines of_lines.read in
        record {
          lists = lists;
          lines = of_lines.lines;
          asks = asked-is texts lists of_lines.lines asked read lawful of_lines.read of_lines.found;
          printed = subst (λ (count : ℕ). TookWhole out (codes "holds: " ++ decimal count ++ codes "\n")) (length-found lists of_lines.lines asked of_lines.found) (rw found at took);
          hold = (nothing-broken lists of_lines.lines asked lawful well of_lines.found).0 found;
        }

says-violated : (out : SinkTrace) (texts : List (List ℕ)) (lists : EstateLists) (found : Result (List AskedLine) Fault) → lists_of (drop 1 texts) ≡ Ok lists → IsLawful lists
    → asked_in (statement_bytes texts) lists ≡ found → hold_in lists found ≡ false → fault_in (finding_of lists found) ≡ None → TookWhole out (text_in (finding_of lists found)) → FindsBroken out texts
says-violated out texts lists (Err fault) read lawful is ended no_fault took = absurd (cc)
says-violated out texts lists (Ok asked) read lawful is ended no_fault took = by (first_broken lists asked) refl ended took
  where
    by : (broken : Option Broken) → first_broken lists asked ≡ broken → hold_in lists (Ok asked) ≡ false → TookWhole out (text_in (finding_of lists (Ok asked))) → FindsBroken out texts
    by None found ended took = absurd (let wrong = rw found at ended in cc)
    by (Some broken) found ended took =
        let of_lines = asked-lines (statement_bytes texts) lists asked is in
        let well = statements-well (statement_bytes texts) of_lines.lines of_lines.read in
        record {
          lists = lists;
          lines = of_lines.lines;
          broken = broken;
          asks = asked-is texts lists of_lines.lines asked read lawful of_lines.read of_lines.found;
          printed = rw found at took;
          first = first-known lists of_lines.lines asked broken lawful well of_lines.found found;
        }

-- a whole report of an accepted file says that all holds, where it does
pub promised-held : (out : SinkTrace) (texts : List (List ℕ)) (lists : EstateLists) → lists_of (drop 1 texts) ≡ Ok lists → IsLawful lists
    → all_hold (statement_bytes texts) lists ≡ true → fault_in (check_reply (statement_bytes texts) lists) ≡ None
    → TookWhole out (text_in (check_reply (statement_bytes texts) lists)) → ChecksAll out texts
unfolding check_reply all_hold
promised-held out texts lists read lawful hold no_fault took = says-done out texts lists (asked_in (statement_bytes texts) lists) read lawful refl hold no_fault took

-- and else which line is broken
pub promised-broken : (out : SinkTrace) (texts : List (List ℕ)) (lists : EstateLists) → lists_of (drop 1 texts) ≡ Ok lists → IsLawful lists
    → all_hold (statement_bytes texts) lists ≡ false → fault_in (check_reply (statement_bytes texts) lists) ≡ None
    → TookWhole out (text_in (check_reply (statement_bytes texts) lists)) → FindsBroken out texts
unfolding check_reply all_hold
promised-broken out texts lists read lawful hold no_fault took = says-violated out texts lists (asked_in (statement_bytes texts) lists) read lawful refl hold no_fault took

-- ---- what is refused

names-refused : (bytes : List ℕ) (lists : EstateLists) (lines : List StatementLine) (found : Result (List AskedLine) (List ℕ)) (fault : Fault) → IsLawful lists → statements_of bytes ≡ Ok lines →
    ends_found lists lines ≡ found → fault_in (finding_of lists (name_fault found)) ≡ Some fault → RefusesCheck bytes lists fault
names-refused bytes lists lines (Ok asked) fault lawful read found told = absurd (none-some fault told)
names-refused bytes lists lines (Err name) fault lawful read found told =
    subst (RefusesCheck bytes lists) (same_Some (UnknownEnd name) fault told) (lines, lines-of bytes lines read, first-unknown lists lines name lawful found)

lines-refused : (bytes : List ℕ) (lists : EstateLists) (found : Result (List StatementLine) ℕ) (fault : Fault) → IsLawful lists → statements_of bytes ≡ found →
    fault_in (finding_of lists (asked_lines lists (line_fault found))) ≡ Some fault → RefusesCheck bytes lists fault
lines-refused bytes lists (Err number) fault lawful read told = subst (RefusesCheck bytes lists) (same_Some (BadStatement number) fault told) (first-bad bytes number read)
lines-refused bytes lists (Ok lines) fault lawful read told = names-refused bytes lists lines (ends_found lists lines) fault lawful read refl told

-- a refusal is for the first line that is no statement, or for the first name that no workload has
pub refused : (bytes : List ℕ) (lists : EstateLists) (fault : Fault) → IsLawful lists → fault_in (check_reply bytes lists) ≡ Some fault → RefusesCheck bytes lists fault
unfolding check_reply asked_in
refused bytes lists fault lawful told = lines-refused bytes lists (statements_of bytes) fault lawful refl told
