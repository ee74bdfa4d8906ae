-- What a run leaves, from why it ends as it does. For `np_main`.
use Rattle.std.proofs.Common.{◌≡◌, ◌<◌, ℕ, List, length, [], ◌∷◌, ◌++◌, Bool, true, false, Option, Some, None, Result, Ok, Err, refl, sym, ap, subst, ◌∙◌, inl, inr}
use Rattle.std.specs.Io.KnownBytes.{append_known}
use Rattle.std.specs.Prelude.{◌⊎◌}
use Rattle.np_io.specs.Prelude.{TookFront, TookLess}
use Rattle.np_io.proofs.TakenLemmas.{append_known-nil}
use Rattle.np_cli.specs.Prelude.{CannotRead, CannotWrite, Cause, Check, Done, Ending, EstateLists, Evaluate, Explain, Exposure, Failure, Fault, Flatten, HaveFault, IsReportOn, Job, Leaves, List as ListJob, NoMemory, NotesLeftOut, Refused, RefusesFor, Run, Sample, TooLarge, Unused, Usage, Violated, check_holds, ending, ending_in, ending_of, ends_so, output, printed_text, refusal, reply, reply_in, report_notes, taking}
use Rattle.np_cli.proofs.HeadlineLemmas.{refuses-for, says-of}
use Rattle.np_cli.proofs.RunsLemmas.{output-fits}
use Rattle.np_frame.specs.Prelude.{inputs_of, is_too_large, object_texts, objects_of}
use Rattle.np_command.proofs.InputLemmas.{read-small}
use Rattle.np_command.specs.Prelude.{SinkTrace, fault_in, lists_of, text_in}
use Rattle.np_command_flatten.proofs.LawfulReads.{estate-lawful}
use Rattle.np_model.specs.Prelude.{IsLawful}
use Rattle.np_reading.specs.Prelude.{estate_of}

-- ---- what is read is lawful

lawful-read : (job : Job) (texts : List (List ℕ)) (lists : EstateLists) → objects_of job texts ≡ Ok lists → IsLawful lists
lawful-read job texts lists read = estate-lawful (object_texts job texts) lists (read-small (estate_of (object_texts job texts)) lists read)

-- ---- faults

-- what is read of the inputs of a job that has inputs is what it is about
have-fault-by : (job : Job) (texts : List (List ℕ)) (fault : Fault) →
    (objects_of job texts ≡ Err fault) ⊎ ((lists : EstateLists) × (objects_of job texts ≡ Ok lists) × RefusesFor job texts lists fault) → HaveFault job texts fault
have-fault-by (ListJob format report controller focus side files) texts fault found = found
have-fault-by (Explain from to files) texts fault found = found
have-fault-by (Exposure workload format files) texts fault found = found
have-fault-by (Evaluate from to proto port files) texts fault found = found
have-fault-by (Unused files) texts fault found = found
have-fault-by (Check statement files) texts fault found = found
have-fault-by (Flatten files) texts fault found = found
have-fault-by (Sample n) texts fault found = tt

fault-read : (job : Job) (texts : List (List ℕ)) (fault : Fault) (reads : Result EstateLists Fault) → objects_of job texts ≡ reads →
    fault_in (reply_in job texts reads) ≡ Some fault → HaveFault job texts fault
fault-read job texts fault (Err other) read found = let same : other ≡ fault = cc in have-fault-by job texts fault (inl (read ∙ ap Err same))
fault-read job texts fault (Ok lists) read found =
    have-fault-by job texts fault (inr (lists, read, refuses-for job texts lists fault (lawful-read job texts lists read) found))

-- the fault that stands first is one
have-fault : (job : Job) (texts : List (List ℕ)) (fault : Fault) → refusal job texts ≡ Some fault → HaveFault job texts fault
unfolding refusal
have-fault job texts fault found = fault-read job texts fault (objects_of job texts) refl found

-- ---- reports

report-read : (job : Job) (texts : List (List ℕ)) (out : SinkTrace) (reads : Result EstateLists Fault) → is_too_large texts ≡ false → objects_of job texts ≡ reads →
    fault_in (reply_in job texts reads) ≡ None → IsReportOn job texts out (text_in (reply_in job texts reads))
report-read job texts out (Err fault) fits read none = cc
report-read job texts out (Ok lists) fits read none =
    let text = text_in (reply job texts lists) in
    record {
      fits = fits;
      ends = ending job texts lists;
      says = says-of (taking out text) job texts lists read (lawful-read job texts lists read) none (record { taken = refl; faults = refl });
    }

-- what may be written of accepted inputs is a report on them
report-on : (job : Job) (texts : List (List ℕ)) (out : SinkTrace) → is_too_large texts ≡ false → refusal job texts ≡ None → IsReportOn job texts out (output (Some job) texts)
unfolding refusal printed_text
report-on job texts out fits none =
    subst (IsReportOn job texts out) (sym (output-fits job texts fits)) (report-read job texts out (objects_of job texts) fits refl none)

-- ---- want of memory

none-left : (front rest : List ℕ) → [] ≡ front ++ rest → front ≡ []
none-left [] rest parts = refl
none-left (x ∷ front) rest parts = cc

-- of nothing, nothing was taken
took-none : (old new : Option (List ℕ)) → TookLess old new [] → new ≡ old
took-none old new less = less.taken ∙ ap (append_known old) (none-left less.front less.rest less.parts) ∙ append_known-nil old

-- what want of memory may leave of told bytes
abbrev LeftLess : Run → List (List ℕ) → Type 0
LeftLess run texts = (run.out.after ≡ run.out.before)
    ⊎ ((job : Job) × (text : List ℕ) × (run.asked ≡ Some job) × IsReportOn job texts run.out text
    × (took : TookFront run.out.before run.out.after text) × (0 < length text → 0 < length took.rest))

took-nothing : (run : Run) (texts : List (List ℕ)) (text : List ℕ) → text ≡ [] → TookLess run.out.before run.out.after text → LeftLess run texts
took-nothing run texts text none less = inl (took-none run.out.before run.out.after (subst (TookLess run.out.before run.out.after) none less))

pub fault-text : (reply : Result (List ℕ) Fault) (fault : Fault) → fault_in reply ≡ Some fault → text_in reply ≡ []
fault-text (Ok text) fault is = cc
fault-text (Err other) fault is = refl

faulty-text : (job : Job) (texts : List (List ℕ)) (fault : Fault) → is_too_large texts ≡ false → refusal job texts ≡ Some fault → output (Some job) texts ≡ []
unfolding refusal printed_text
faulty-text job texts fault fits found = output-fits job texts fits ∙ fault-text (reply_in job texts (objects_of job texts)) fault found

large-text : (job : Job) (texts : List (List ℕ)) → is_too_large texts ≡ true → output (Some job) texts ≡ []
unfolding output
large-text job texts large = rw large refl

no_text : (texts : List (List ℕ)) → output None texts ≡ []
unfolding output
no_text texts = refl

job-less : (run : Run) (job : Job) (texts : List (List ℕ)) → run.asked ≡ Some job → TookLess run.out.before run.out.after (output (Some job) texts) → LeftLess run texts
job-less run job texts asked less = by (is_too_large texts) refl (refusal job texts) refl
  where
    by : (large : Bool) → is_too_large texts ≡ large → (found : Option Fault) → refusal job texts ≡ found → LeftLess run texts
    by true large found is = took-nothing run texts (output (Some job) texts) (large-text job texts large) less
    by false large (Some fault) is = took-nothing run texts (output (Some job) texts) (faulty-text job texts fault large is) less
    by false large None is =
        inr (job, output (Some job) texts, asked, report-on job texts run.out large is, record { front = less.front; rest = less.rest; parts = less.parts; taken = less.taken }, less.less)

left-less : (run : Run) (texts : List (List ℕ)) → TookLess run.out.before run.out.after (output run.asked texts) → LeftLess run texts
left-less run texts less = by run.asked refl
  where
    by : (asked : Option Job) → run.asked ≡ asked → LeftLess run texts
    by None is = took-nothing run texts (output run.asked texts) (ap (λ (one : Option Job). output one texts) is ∙ no_text texts) less
    by (Some job) is = job-less run job texts is (subst (λ (one : Option Job). TookLess run.out.before run.out.after (output one texts)) is less)

-- ---- notes

notes-left_out : (job : Job) (lists : EstateLists) → NotesLeftOut job lists (Done (report_notes job lists))
unfolding report_notes
notes-left_out (ListJob format report controller focus side files) lists = refl
notes-left_out (Explain from to files) lists = refl
notes-left_out (Exposure workload format files) lists = refl
notes-left_out (Evaluate from to proto port files) lists = refl
notes-left_out (Unused files) lists = refl
notes-left_out (Check statement files) lists = refl
notes-left_out (Flatten files) lists = refl
notes-left_out (Sample n) lists = tt

none-violated : (job : Job) (lists : EstateLists) → NotesLeftOut job lists Violated
none-violated (ListJob format report controller focus side files) lists = tt
none-violated (Explain from to files) lists = tt
none-violated (Exposure workload format files) lists = tt
none-violated (Evaluate from to proto port files) lists = tt
none-violated (Unused files) lists = tt
none-violated (Check statement files) lists = tt
none-violated (Flatten files) lists = tt
none-violated (Sample n) lists = tt

notes-ended : (job : Job) (lists : EstateLists) (hold : Bool) → NotesLeftOut job lists (ends_so hold (report_notes job lists))
notes-ended job lists true = notes-left_out job lists
notes-ended job lists false = none-violated job lists

notes-read : (job : Job) (texts : List (List ℕ)) (lists : EstateLists) (ends : Ending) → ends ≡ ending_of job texts → objects_of job texts ≡ Ok lists → NotesLeftOut job lists ends
unfolding ending_of
notes-read job texts lists ends ended read =
    subst (NotesLeftOut job lists) (sym (ended ∙ ap (ending_in job texts) read)) (notes-ended job lists (check_holds job texts lists))

noted-sample : (n : ℕ) (lists : EstateLists) (ends : Ending) → NotesLeftOut (Sample n) lists ends
noted-sample n lists (Done notes) = tt
noted-sample n lists Violated = tt

notes-told : (job : Job) (texts : List (List ℕ)) (lists : EstateLists) (ends : Ending) → ends ≡ ending_of job texts → lists_of (inputs_of job texts) ≡ Ok lists → NotesLeftOut job lists ends
notes-told (ListJob format report controller focus side files) texts lists ends ended read = notes-read (ListJob format report controller focus side files) texts lists ends ended read
notes-told (Explain from to files) texts lists ends ended read = notes-read (Explain from to files) texts lists ends ended read
notes-told (Exposure workload format files) texts lists ends ended read = notes-read (Exposure workload format files) texts lists ends ended read
notes-told (Evaluate from to proto port files) texts lists ends ended read = notes-read (Evaluate from to proto port files) texts lists ends ended read
notes-told (Unused files) texts lists ends ended read = notes-read (Unused files) texts lists ends ended read
notes-told (Check statement files) texts lists ends ended read = notes-read (Check statement files) texts lists ends ended read
notes-told (Flatten files) texts lists ends ended read = notes-read (Flatten files) texts lists ends ended read
notes-told (Sample n) texts lists ends ended read = noted-sample n lists ends

-- ---- outcomes

-- where a run has its cause, it leaves what it is to leave
pub Leaves-caused : (run : Run) (outcome : Result Ending Failure) → Cause run outcome → Leaves run outcome
Leaves-caused run (Ok ends) cause = record {
  inputs = record { job = cause.job; asked = cause.asked; read = cause.read; fits = λ texts told. (cause.told texts told).accepted.fits };
  unfailed = cause.unfailed;
  notes = λ texts lists told read. notes-told cause.job texts lists ends (cause.told texts told).ended read;
}
Leaves-caused run (Err Usage) cause = cause
Leaves-caused run (Err TooLarge) cause = cause
Leaves-caused run (Err (Refused fault)) cause = record {
  inputs = record { job = cause.job; asked = cause.asked; read = cause.read; fits = cause.fits };
  kept = cause.kept;
  found = λ texts told. have-fault cause.job texts fault (cause.found texts told);
}
Leaves-caused run (Err (CannotRead name)) cause = cause
Leaves-caused run (Err CannotWrite) cause = record {
  inputs = record { job = cause.job; asked = cause.asked; read = cause.read; fits = λ texts told. (cause.accepted texts told).fits };
  rose = cause.rose;
  front = λ texts told.
      let accepted = cause.accepted texts told in
      let text = output (Some cause.job) texts in (
        text,
        report-on cause.job texts run.out accepted.fits accepted.no_fault,
        subst (λ (one : Option Job). TookFront run.out.before run.out.after (output one texts)) cause.asked (cause.front texts told),
      );
}
Leaves-caused run (Err NoMemory) cause = record { began = cause.began; less = λ texts told. left-less run texts (cause.less texts told) }
