-- What reports say, from what was written of them. For `np_main`.
use Rattle.std.proofs.Common.{◌≡◌, ℕ, List, Bool, true, false, Option, Some, None, Result, Ok, Err, refl, sym, subst, ◌∙◌}
use Rattle.np_cli.specs.Prelude.{CannotRead, CannotWrite, Cause, Check, Done, Ending, EstateLists, Evaluate, Explain, Exposure, Failure, Fault, Flatten, Job, List as ListJob, NoMemory, Refused, RefusesFor, ReportNotes, Run, Sample, Says, SaysOfInputs, Status, TooLarge, Unused, Usage, Violated, check_holds, ending, ending_status, ends_so, reply, report_notes, status_of}
use Rattle.np_cli.proofs.DoneLemmas.{written-told}
use Rattle.np_frame.specs.Prelude.{objects_of}
use Rattle.np_command.specs.Prelude.{SinkTrace, TookWhole, failure_status, fault_in, text_in}
use Rattle.np_command_check.proofs.PromiseLemmas.{promised-broken, promised-held, refused as check_refused}
use Rattle.np_command_check.specs.Prelude.{all_hold, statement_bytes}
use Rattle.np_command_evaluate.proofs.PromiseLemmas.{promised as evaluate_promised, refused as evaluate_refused}
use Rattle.np_command_explain.proofs.PromiseLemmas.{promised as explain_promised, refused as explain_refused}
use Rattle.np_command_exposure.proofs.PromiseLemmas.{promised as exposure_promised, refused as exposure_refused}
use Rattle.np_command_flatten.proofs.PromiseLemmas.{promised as flatten_promised, refused as flatten_refused}
use Rattle.np_command_list.proofs.PromiseLemmas.{promised as list_promised, refused as list_refused}
use Rattle.np_command_unused.proofs.PromiseLemmas.{promised as unused_promised}
use Rattle.np_model.specs.Prelude.{IsLawful}

-- ---- what a report says

-- a whole report of accepted inputs says what its job is to say
pub says-of : (out : SinkTrace) (job : Job) (texts : List (List ℕ)) (lists : EstateLists) → objects_of job texts ≡ Ok lists → IsLawful lists
    → fault_in (reply job texts lists) ≡ None → TookWhole out (text_in (reply job texts lists)) → Says job (ending job texts lists) texts out
unfolding reply check_holds
says-of out (ListJob format report controller focus side files) texts lists read lawful none took =
    list_promised out format report controller focus side texts lists read lawful none took
says-of out (Explain from to files) texts lists read lawful none took = explain_promised out from to texts lists read lawful none took
says-of out (Exposure workload format files) texts lists read lawful none took = exposure_promised out workload format texts lists read lawful none took
says-of out (Evaluate from to proto port files) texts lists read lawful none took =
    evaluate_promised out from to (record { proto = proto; port = port }) texts lists read lawful none took
says-of out (Unused files) texts lists read lawful none took = unused_promised out texts lists read lawful took
says-of out (Check statement files) texts lists read lawful none took = by (all_hold (statement_bytes texts) lists) refl
  where
    by : (hold : Bool) → all_hold (statement_bytes texts) lists ≡ hold → Says (Check statement files) (ends_so hold (report_notes (Check statement files) lists)) texts out
    by true hold = promised-held out texts lists read lawful hold none took
    by false hold = promised-broken out texts lists read lawful hold none took
says-of out (Flatten files) texts lists read lawful none took = flatten_promised out texts lists read lawful none took
says-of out (Sample n) texts lists read lawful none took = tt

-- it says so whatever the notes are
says-noted : (job : Job) (notes others : ReportNotes) (texts : List (List ℕ)) (out : SinkTrace) → Says job (Done notes) texts out → Says job (Done others) texts out
says-noted (ListJob format report controller focus side files) notes others texts out says = says
says-noted (Explain from to files) notes others texts out says = says
says-noted (Exposure workload format files) notes others texts out says = says
says-noted (Evaluate from to proto port files) notes others texts out says = says
says-noted (Unused files) notes others texts out says = says
says-noted (Check statement files) notes others texts out says = says
says-noted (Flatten files) notes others texts out says = says
says-noted (Sample n) notes others texts out says = says

-- so it says what is to be said with its status
says-ended : (job : Job) (ends wanted : Ending) (texts : List (List ℕ)) (out : SinkTrace) → ending_status ends ≡ ending_status wanted → Says job ends texts out → Says job wanted texts out
says-ended job (Done notes) (Done others) texts out same says = says-noted job notes others texts out says
says-ended job Violated Violated texts out same says = says
says-ended job (Done notes) Violated texts out same says = cc
says-ended job Violated (Done others) texts out same says = cc

-- no failure has the status of a whole report
failed-apart : (failure : Failure) (ends : Ending) → failure_status failure ≡ ending_status ends → ⊥
failed-apart Usage (Done notes) same = cc
failed-apart TooLarge (Done notes) same = cc
failed-apart (Refused fault) (Done notes) same = cc
failed-apart (CannotRead name) (Done notes) same = cc
failed-apart CannotWrite (Done notes) same = cc
failed-apart NoMemory (Done notes) same = cc
failed-apart Usage Violated same = cc
failed-apart TooLarge Violated same = cc
failed-apart (Refused fault) Violated same = cc
failed-apart (CannotRead name) Violated same = cc
failed-apart CannotWrite Violated same = cc
failed-apart NoMemory Violated same = cc

pub says_of_inputs : (run : Run) (answer : Status) (outcome : Result Ending Failure) → Cause run outcome → answer ≡ status_of outcome → SaysOfInputs run answer
says_of_inputs run answer (Ok ends) cause answered = λ job texts wanted is told done.
    let written = written-told run ends job texts cause is told in
    says-ended job ends wanted texts run.out (sym answered ∙ done)
    (subst (λ (one : Ending). Says job one texts run.out) (sym written.ended)
    (says-of run.out job texts written.lists written.read written.lawful written.no_fault written.took))
says_of_inputs run answer (Err failure) cause answered = λ job texts wanted is told done. absurd (failed-apart failure wanted (sym answered ∙ done))

-- ---- why there is none

no_fault_is : (fault : Fault) → ◌≡◌ {A = Option Fault} None (Some fault) → ⊥
no_fault_is fault is = cc

-- a job that finds a fault of an estate may refuse it for that
pub refuses-for : (job : Job) (texts : List (List ℕ)) (lists : EstateLists) (fault : Fault) → IsLawful lists → fault_in (reply job texts lists) ≡ Some fault → RefusesFor job texts lists fault
unfolding reply
refuses-for (ListJob format report controller focus side files) texts lists fault lawful found = list_refused format report controller focus side lists fault lawful found
refuses-for (Explain from to files) texts lists fault lawful found = explain_refused from to lists fault lawful found
refuses-for (Exposure workload format files) texts lists fault lawful found = exposure_refused workload format lists fault lawful found
refuses-for (Evaluate from to proto port files) texts lists fault lawful found = evaluate_refused from to (record { proto = proto; port = port }) lists fault lawful found
refuses-for (Unused files) texts lists fault lawful found = absurd (no_fault_is fault found)
refuses-for (Check statement files) texts lists fault lawful found = check_refused (statement_bytes texts) lists fault lawful found
refuses-for (Flatten files) texts lists fault lawful found = flatten_refused lists fault lawful found
refuses-for (Sample n) texts lists fault lawful found = absurd (no_fault_is fault found)
