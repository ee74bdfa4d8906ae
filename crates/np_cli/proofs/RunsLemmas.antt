-- Why a run ends as it does. For `np_main`, `run_job` and `run`.
use Rattle.std.proofs.Common.{◌≡◌, ℕ, ◌≤◌, List, [], ◌∷◌, ◌++◌, Option, Some, None, false, refl, sym, ap, subst, ◌∙◌, append_assoc, append-nil, Result, Ok, Err, inl, inr, sum_by, length}
use Rattle.std.specs.Prelude.{◌⊎◌, IsErrAnd}
use Rattle.std.proofs.lemmas.Bool.{le-ltb}
use Rattle.np_io.specs.Prelude.{TookFront, TookLess}
use Rattle.np_frame.proofs.SourcesLemmas.{BeganNext-none}
use Rattle.np_cli.specs.Prelude.{Answers, AskedNothing, CannotRead, CannotWrite, Cause, Ending, Failure, Fault, IsAccepted, IsReported, Job, NoMemory, Refused, Run, TooLarge, Usage, ending_of, output, printed_text, ran, refusal, reply_in}
use Rattle.np_command.specs.Prelude.{IsKept, SinkTrace, TookWhole, fault_in, text_in, words_failure}
use Rattle.np_frame.specs.Prelude.{AreTold, BeganFront, FailedAt, IsUntouched, NamesSomething, OverLimit, ReadOnce, SourceTrace, Unread, input_names, is_too_large, names_asked, objects_of, source_failure}
use Rattle.np_frame.specs.declared.sources.TheConstants.{SIZE_LIMIT}
use Rattle.np_frame.specs.declared.sources.SourceFault.{SourceFault}
use Rattle.np_frame.specs.declared.sources.SourceFault.TheVariants as unread
use Rattle.np_args.specs.declared.words_fault.WordsFault.{WordsFault}
use Rattle.np_args.specs.declared.words_fault.WordsFault.TheVariants as words
use Rattle.np_command.proofs.SinkLemmas.{TookLess-kept}

-- ---- names that were begun

-- where all inputs were read, all names were begun
BeganFront-all : (source : SourceTrace) (names : List (List ℕ)) → ReadOnce source names → BeganFront source names
BeganFront-all source names once = record { front = names; rest = []; order = sym (append-nil names); began = once.began }

-- where nothing was touched, none was
BeganFront-none : (source : SourceTrace) (names : List (List ℕ)) → IsUntouched source → BeganFront source names
BeganFront-none source names untouched = record { front = []; rest = names; order = refl; began = BeganNext-none source.began_before source.began_after untouched.began }

-- the name of which a call failed was begun last
BeganFront-failed : (source : SourceTrace) (names : List (List ℕ)) (name : List ℕ) → FailedAt source names name → BeganFront source names
BeganFront-failed source names name at = record {
  front = at.earlier ++ name ∷ [];
  rest = at.later;
  order = at.order ∙ sym (append_assoc at.earlier (name ∷ []) at.later);
  began = at.began;
}

-- so was the one with which the inputs became too large
BeganFront-over : (source : SourceTrace) (names : List (List ℕ)) → OverLimit source names → BeganFront source names
BeganFront-over source names over = record {
  front = over.earlier ++ over.name ∷ [];
  rest = over.later;
  order = over.order ∙ sym (append_assoc over.earlier (over.name ∷ []) over.later);
  began = over.began;
}

-- ---- a report on the bytes that were read is one on those that the source told

-- what may be written for inputs that fit is the job's text
pub output-fits : (job : Job) (texts : List (List ℕ)) → is_too_large texts ≡ false → output (Some job) texts ≡ printed_text job texts
unfolding output
output-fits job texts fits = rw fits refl

fits_limit : (texts : List (List ℕ)) → sum_by length texts ≤ SIZE_LIMIT → is_too_large texts ≡ false
fits_limit texts fits = le-ltb SIZE_LIMIT (sum_by length texts) fits

fault-is : (job : Job) (texts : List (List ℕ)) (reply : Result (List ℕ) Fault) → reply_in job texts (objects_of job texts) ≡ reply → refusal job texts ≡ fault_in reply
unfolding refusal
fault-is job texts reply is = ap fault_in is

text-is : (job : Job) (texts : List (List ℕ)) (reply : Result (List ℕ) Fault) → is_too_large texts ≡ false → reply_in job texts (objects_of job texts) ≡ reply → output (Some job) texts ≡ text_in reply
unfolding printed_text
text-is job texts reply fits is = output-fits job texts fits ∙ ap text_in is

pub Cause-from_answers : (job : Job) (source : SourceTrace) (out : SinkTrace) (texts : List (List ℕ)) (outcome : Result Ending Failure) →
    ((told : List (List ℕ)) → AreTold source.holds source.left (input_names job) told → texts ≡ told) → sum_by length texts ≤ SIZE_LIMIT → ReadOnce source (input_names job) → Answers job texts out outcome →
    Cause (ran (Some job) source out) outcome
unfolding ending_of
Cause-from_answers job source out texts (Ok ends) read size once answers =
    let fits = fits_limit texts size in
    let reported : IsReported (ran (Some job) source out) job ends texts = record {
      accepted = record { fits = fits; no_fault = fault-is job texts (Ok answers.0.text) answers.0.is };
      took = subst (TookWhole out) (sym (text-is job texts (Ok answers.0.text) fits answers.0.is)) answers.0.took;
      ended = answers.1;
      lawful = answers.2;
    } in
    record { job = job; asked = refl; read = once; unfailed = answers.0.took.faults; told = λ told tells. subst (IsReported (ran (Some job) source out) job ends) (read told tells) reported }
Cause-from_answers job source out texts (Err (Refused fault)) read size once answers = record {
  job = job;
  asked = refl;
  read = once;
  kept = answers.1;
  fits = λ told tells. subst (λ (ts : List (List ℕ)). is_too_large ts ≡ false) (read told tells) (fits_limit texts size);
  found = λ told tells. subst (λ (ts : List (List ℕ)). refusal job ts ≡ Some fault) (read told tells) (fault-is job texts (Err fault) answers.0);
}
Cause-from_answers job source out texts (Err CannotWrite) read size once answers =
    let fits = fits_limit texts size in
    let accepted : IsAccepted job texts = record { fits = fits; no_fault = fault-is job texts (Ok answers.text) answers.is } in
    let front : TookFront out.before out.after (output (Some job) texts) = subst (TookFront out.before out.after) (sym (text-is job texts (Ok answers.text) fits answers.is)) answers.took in
    record {
      job = job;
      asked = refl;
      read = once;
      rose = answers.rose;
      accepted = λ told tells. subst (IsAccepted job) (read told tells) accepted;
      front = λ told tells. subst (λ (ts : List (List ℕ)). TookFront out.before out.after (output (Some job) ts)) (read told tells) front;
    }
Cause-from_answers job source out texts (Err NoMemory) read size once answers =
    let less : TookLess out.before out.after (output (Some job) texts) = subst (TookLess out.before out.after)
    (sym (text-is job texts (reply_in job texts (objects_of job texts)) (fits_limit texts size) refl)) answers in
    record {
      began = BeganFront-all source (input_names job) once;
      less = λ told tells. subst (λ (ts : List (List ℕ)). TookLess out.before out.after (output (Some job) ts)) (read told tells) less;
    }
Cause-from_answers job source out texts (Err Usage) read size once answers = absurd answers
Cause-from_answers job source out texts (Err TooLarge) read size once answers = absurd answers
Cause-from_answers job source out texts (Err (CannotRead name)) read size once answers = absurd answers

-- ---- words and inputs that are not read

-- the words ask for nothing, or want memory
pub Cause-words : (asked : Option Job) (source : SourceTrace) (out : SinkTrace) (fault : WordsFault) → (fault ≡ words.Usage → asked ≡ None) → IsUntouched source → IsKept out →
    Cause (ran asked source out) (Err (words_failure fault))
Cause-words asked source out words.Usage nothing untouched kept = record {
  asked = nothing refl;
  faults = untouched.faults;
  handed = untouched.handed;
  began = untouched.began;
  kept = kept;
}
Cause-words asked source out words.NoMemory nothing untouched kept = record {
  began = BeganFront-none source (names_asked asked) untouched;
  less = λ texts told. TookLess-kept out (output asked texts) kept;
}

-- memory is refused before anything is read
pub Cause-unbegun : (job : Job) (source : SourceTrace) (out : SinkTrace) → IsUntouched source → IsKept out → Cause (ran (Some job) source out) (Err NoMemory)
Cause-unbegun job source out untouched kept = record { began = BeganFront-none source (input_names job) untouched; less = λ texts told. TookLess-kept out (output (Some job) texts) kept }

-- the inputs are not read
pub Cause-unread : (job : Job) (source : SourceTrace) (out : SinkTrace) (fault : SourceFault) → IsKept out → Unread source (input_names job) fault →
    Cause (ran (Some job) source out) (Err (source_failure fault))
Cause-unread job source out (unread.CannotRead name) kept why = record { at = why; kept = kept }
Cause-unread job source out unread.TooLarge kept why = record { asked = refl; over = why; kept = kept }
Cause-unread job source out unread.NoMemory kept why = record { began = why; less = λ texts told. TookLess-kept out (output (Some job) texts) kept }

-- words that ask for a job do not ask for nothing
pub Cause-asked : (job : Job) (source : SourceTrace) (out : SinkTrace) (outcome : Result Ending Failure) → Cause (ran (Some job) source out) outcome → outcome ≡ Err Usage → ⊥
Cause-asked job source out outcome cause usage =
    let why : AskedNothing (ran (Some job) source out) = subst (Cause (ran (Some job) source out)) usage cause in
    let nothing : Some job ≡ None = why.asked in cc

-- ---- what every run does, and what is said of it

-- the inputs that a run began are the first of its names
pub Cause-began : (run : Run) (outcome : Result Ending Failure) → Cause run outcome → BeganFront run.source (names_asked run.asked)
Cause-began run (Ok ends) cause = subst (BeganFront run.source) (sym (ap names_asked cause.asked)) (BeganFront-all run.source (input_names cause.job) cause.read)
Cause-began run (Err Usage) cause = BeganFront-none run.source (names_asked run.asked) (record { faults = cause.faults; handed = cause.handed; began = cause.began })
Cause-began run (Err TooLarge) cause = BeganFront-over run.source (names_asked run.asked) cause.over
Cause-began run (Err (Refused fault)) cause = subst (BeganFront run.source) (sym (ap names_asked cause.asked)) (BeganFront-all run.source (input_names cause.job) cause.read)
Cause-began run (Err (CannotRead name)) cause = BeganFront-failed run.source (names_asked run.asked) name cause.at
Cause-began run (Err CannotWrite) cause = subst (BeganFront run.source) (sym (ap names_asked cause.asked)) (BeganFront-all run.source (input_names cause.job) cause.read)
Cause-began run (Err NoMemory) cause = cause.began

-- where the line of a failure wants memory that is refused, the run ended for want of memory: nothing was written
Cause-unsaid : (run : Run) (outcome : Result Ending Failure) → Cause run outcome → IsErrAnd outcome NamesSomething → Cause run (Err NoMemory)
Cause-unsaid run (Err (Refused fault)) cause names =
    record { began = Cause-began run (Err (Refused fault)) cause; less = λ texts told. TookLess-kept run.out (output run.asked texts) cause.kept }
Cause-unsaid run (Err (CannotRead name)) cause names =
    record { began = Cause-began run (Err (CannotRead name)) cause; less = λ texts told. TookLess-kept run.out (output run.asked texts) cause.kept }
Cause-unsaid run (Ok ends) cause names = absurd names
Cause-unsaid run (Err Usage) cause names = absurd names
Cause-unsaid run (Err TooLarge) cause names = absurd names
Cause-unsaid run (Err CannotWrite) cause names = absurd names
Cause-unsaid run (Err NoMemory) cause names = absurd names

-- so whatever was said, it has its cause
pub Cause-said : (run : Run) (ended said : Result Ending Failure) → Cause run ended → (said ≡ ended) ⊎ ((said ≡ Err NoMemory) × IsErrAnd ended NamesSomething) → Cause run said
Cause-said run ended said cause which = elim which [
  | inl same ↦ subst (Cause run) (sym same) cause
  | inr memory ↦ subst (Cause run) (sym memory.0) (Cause-unsaid run ended cause memory.1)
]
