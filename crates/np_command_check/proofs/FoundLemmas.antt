-- What is said of the statements of a file, by what is found of its lines. For `check_file`.
use Rattle.std.proofs.Common.{◌≡◌, ℕ, List, Option, Result, Ok, Err, length, ap, ◌∙◌}
use Rattle.std.specs.Prelude.{is_none}
use Rattle.np_command.proofs.SinkLemmas.{TookLess-kept}
use Rattle.np_command.specs.Prelude.{IsKept, SinkTrace, Wrote, text_in}
use Rattle.np_command_check.specs.Prelude.{AskedLine, Broken, EndFault, EstateLists, StatementLine, UnknownEnd, all_hold, asked_in, asked_lines, check_reply, end_failure, finding, finding_of, hold_in, line_fault, name_fault}
use Rattle.np_statements.proofs.AmongLemmas.{among-found, among-unknown}
use Rattle.np_statements.specs.Prelude.{GivesEnds, broken_among, ends_found, first_broken, statements_of}
use Rattle.np_statements.specs.declared.end_fault.EndFault.TheVariants as end

-- what is asked, where all lines are statements
asked-by : (bytes : List ℕ) (lists : EstateLists) (lines : List StatementLine) (found : Result (List AskedLine) (List ℕ)) → statements_of bytes ≡ Ok lines → ends_found lists lines ≡ found →
    asked_in bytes lists ≡ name_fault found
unfolding asked_in
asked-by bytes lists lines found read is = ap (λ (all : Result (List StatementLine) ℕ). asked_lines lists (line_fault all)) read ∙ ap name_fault is

pub reply_found : (bytes : List ℕ) (lists : EstateLists) (lines : List StatementLine) (broken : Option Broken) → statements_of bytes ≡ Ok lines → broken_among lists lines ≡ Ok broken →
    check_reply bytes lists ≡ Ok (finding lists (length lines) broken)
unfolding check_reply
reply_found bytes lists lines broken read is =
    let among = among-found lists lines broken is in
    ap (finding_of lists) (asked-by bytes lists lines (Ok among.asked) read among.found)
    ∙ ap (λ (count : ℕ). Ok (finding lists count (first_broken lists among.asked))) among.many
    ∙ ap (λ (one : Option Broken). Ok (finding lists (length lines) one)) among.first

pub reply_unknown : (bytes : List ℕ) (lists : EstateLists) (lines : List StatementLine) (name : List ℕ) → statements_of bytes ≡ Ok lines → broken_among lists lines ≡ Err name →
    check_reply bytes lists ≡ Err (UnknownEnd name)
unfolding check_reply
reply_unknown bytes lists lines name read is = ap (finding_of lists) (asked-by bytes lists lines (Err name) read (among-unknown lists lines name is))

pub hold_found : (bytes : List ℕ) (lists : EstateLists) (lines : List StatementLine) (broken : Option Broken) → statements_of bytes ≡ Ok lines → broken_among lists lines ≡ Ok broken →
    all_hold bytes lists ≡ is_none broken
unfolding all_hold
hold_found bytes lists lines broken read is =
    let among = among-found lists lines broken is in
    ap (hold_in lists) (asked-by bytes lists lines (Ok among.asked) read among.found) ∙ ap is_none among.first

-- a name that no workload has, or want of memory
pub wrote-unfound : (out : SinkTrace) (bytes : List ℕ) (lists : EstateLists) (lines : List StatementLine) (fault : EndFault) → statements_of bytes ≡ Ok lines →
    GivesEnds {X = Option Broken} (Err fault) (broken_among lists lines) → IsKept out → Wrote out (check_reply bytes lists) (Err (end_failure fault))
wrote-unfound out bytes lists lines (end.UnknownEnd name) read unknown kept = (reply_unknown bytes lists lines name read unknown, kept)
wrote-unfound out bytes lists lines end.NoMemory read unknown kept = TookLess-kept out (text_in (check_reply bytes lists)) kept
