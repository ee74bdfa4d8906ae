-- What follows from why a run ends as it does. For `np_main`.
use Rattle.std.proofs.Common.{◌≡◌, ℕ, List, Option, Some, None, is_some, true, Result, Ok, Err, sym, subst, inl, inr, arith}
use Rattle.std.specs.Io.KnownBytes.{append_known}
use Rattle.std.specs.Prelude.{◌⊎◌, Contains, IsErrAnd}
use Rattle.std.proofs.lemmas.Bool.{both_ways}
use Rattle.np_io.proofs.TakenLemmas.{TookLess-not_all}
use Rattle.np_io.specs.Prelude.{Rose, TookLess}
use Rattle.np_cli.specs.Prelude.{AcknowledgesReport, BlamesDevice, BlamesWords, CannotRead, CannotWrite, Cause, Completes, Done, Ending, Failure, Fault, IsStill, Job, NoMemory, Refused, RefusesFaults, RefusesMore, RefusesTooLarge, Run, Status, TooLarge, Usage, Violated, ending_of, ending_status, message, output, refusal, status_of}
use Rattle.np_command.specs.Prelude.{Said, SinkTrace}
use Rattle.np_frame.specs.Prelude.{FailedAt, NamesSomething, SourceTrace, names_asked}
use Rattle.np_frame.proofs.SourcesLemmas.{Contains-middle}
use Rattle.np_command.specs.declared.status.Status.TheVariants as status

still_or_rose : (old new : ℕ) → IsStill old new → Rose old new → ⊥
still_or_rose old new still rose = elim rose [ inl more ↦ omega (arith, still.no_more) | inr end ↦ omega (arith, still.below_end) ]

-- words that ask for something do not ask for nothing
asks : {P : Type 0} (asked : Option Job) (job : Job) → asked ≡ Some job → asked ≡ None → P
asks asked job is nothing = cc

asks_nothing : {P : Type 0} (asked : Option Job) → is_some asked ≡ true → asked ≡ None → P
asks_nothing None some nothing = cc
asks_nothing (Some job) some nothing = cc

names_something : {P : Type 0} (asked : Option Job) (name : List ℕ) → Contains (names_asked asked) name → asked ≡ None → P
names_something None name among nothing = absurd (omega (arith, among.1))
names_something (Some job) name among nothing = cc

pub one_job : (asked : Option Job) (job other : Job) → asked ≡ Some job → asked ≡ Some other → other ≡ job
one_job asked job other is is_other = cc

pub no_fault : {P : Type 0} (found : Option Fault) (fault : Fault) → found ≡ None → found ≡ Some fault → P
no_fault found fault none some = cc

one_fault : (found : Option Fault) (fault other : Fault) → found ≡ Some fault → found ≡ Some other → other ≡ fault
one_fault found fault other is is_other = cc

-- the name of which a call failed is among those that are asked for
among : (source : SourceTrace) (names : List (List ℕ)) (name : List ℕ) → FailedAt source names name → Contains names name
among source names name at = subst (λ (ns : List (List ℕ)). Contains ns name) (sym at.order) (Contains-middle at.earlier name at.later)

pub completes : (run : Run) (err : SinkTrace) (answer : Status) (outcome : Result Ending Failure) → Cause run outcome → Said err (message outcome) → answer ≡ status_of outcome →
    Completes run err answer
completes run err answer (Ok ends) cause said answered = λ job texts is told accepted inputs sink.
    let reported = cause.told texts told in
    let same : ends ≡ ending_of job texts = subst (λ (j : Job). ends ≡ ending_of j texts) (one_job run.asked job cause.job is cause.asked) reported.ended in
    inl (subst (λ (e : Ending). answer ≡ ending_status e) same answered, reported.took, subst (λ (e : Ending). Said err (message (Ok e))) same said)
completes run err answer (Err Usage) cause said answered = λ job texts is told accepted inputs sink. asks run.asked job is cause.asked
completes run err answer (Err TooLarge) cause said answered = λ job texts is told accepted inputs sink. absurd (both_ways _ accepted.fits (cause.over.large texts told))
completes run err answer (Err (Refused fault)) cause said answered = λ job texts is told accepted inputs sink.
    no_fault (refusal job texts) fault accepted.no_fault (subst (λ (j : Job). refusal j texts ≡ Some fault) (one_job run.asked job cause.job is cause.asked) (cause.found texts told))
completes run err answer (Err (CannotRead name)) cause said answered = λ job texts is told accepted inputs sink.
    absurd (still_or_rose _ _ (inputs name (among run.source (names_asked run.asked) name cause.at)) cause.at.rose)
completes run err answer (Err CannotWrite) cause said answered = λ job texts is told accepted inputs sink.
    absurd (still_or_rose _ _ sink cause.rose)
completes run err answer (Err NoMemory) cause said answered = λ job texts is told accepted inputs sink. inr answered

pub refuses_too_large : (run : Run) (err : SinkTrace) (answer : Status) (outcome : Result Ending Failure) → Cause run outcome → Said err (message outcome) → answer ≡ status_of outcome →
    RefusesTooLarge run err answer
refuses_too_large run err answer (Ok ends) cause said answered = λ job texts is told large inputs.
    absurd (both_ways _ (cause.told texts told).accepted.fits large)
refuses_too_large run err answer (Err Usage) cause said answered = λ job texts is told large inputs. asks run.asked job is cause.asked
refuses_too_large run err answer (Err TooLarge) cause said answered = λ job texts is told large inputs. inl (answered, cause.kept, said)
refuses_too_large run err answer (Err (Refused fault)) cause said answered = λ job texts is told large inputs.
    absurd (both_ways _ (cause.fits texts told) large)
refuses_too_large run err answer (Err (CannotRead name)) cause said answered = λ job texts is told large inputs.
    absurd (still_or_rose _ _ (inputs name (among run.source (names_asked run.asked) name cause.at)) cause.at.rose)
refuses_too_large run err answer (Err CannotWrite) cause said answered = λ job texts is told large inputs.
    absurd (both_ways _ (cause.accepted texts told).fits large)
refuses_too_large run err answer (Err NoMemory) cause said answered = λ job texts is told large inputs. inr answered

-- where more bytes were handed out than inputs may have, no other outcome has its cause
pub refuses_more : (run : Run) (err : SinkTrace) (answer : Status) (outcome : Result Ending Failure) → Cause run outcome → Said err (message outcome) → answer ≡ status_of outcome →
    RefusesMore run err answer
refuses_more run err answer (Ok ends) cause said answered = λ more. absurd (omega (arith, more, cause.read.in_room))
refuses_more run err answer (Err Usage) cause said answered = λ more. absurd (omega (arith, more, cause.handed))
refuses_more run err answer (Err TooLarge) cause said answered = λ more. inl (answered, cause.kept, said)
refuses_more run err answer (Err (Refused fault)) cause said answered = λ more. absurd (omega (arith, more, cause.read.in_room))
refuses_more run err answer (Err (CannotRead name)) cause said answered = λ more. absurd (omega (arith, more, cause.at.in_room))
refuses_more run err answer (Err CannotWrite) cause said answered = λ more. absurd (omega (arith, more, cause.read.in_room))
refuses_more run err answer (Err NoMemory) cause said answered = λ more. inr answered

pub refuses_faults : (run : Run) (err : SinkTrace) (answer : Status) (outcome : Result Ending Failure) → Cause run outcome → Said err (message outcome) → answer ≡ status_of outcome →
    RefusesFaults run err answer
refuses_faults run err answer (Ok ends) cause said answered = λ job texts fault is told fits found inputs.
    no_fault (refusal job texts) fault (subst (λ (j : Job). refusal j texts ≡ None) (one_job run.asked job cause.job is cause.asked) (cause.told texts told).accepted.no_fault) found
refuses_faults run err answer (Err Usage) cause said answered = λ job texts fault is told fits found inputs. asks run.asked job is cause.asked
refuses_faults run err answer (Err TooLarge) cause said answered = λ job texts fault is told fits found inputs.
    absurd (both_ways _ fits (cause.over.large texts told))
refuses_faults run err answer (Err (Refused other)) cause said answered = λ job texts fault is told fits found inputs.
    let same : other ≡ fault = one_fault (refusal job texts) fault other found
    (subst (λ (j : Job). refusal j texts ≡ Some other) (one_job run.asked job cause.job is cause.asked) (cause.found texts told)) in
    inl (answered, cause.kept, subst (λ (f : Fault). Said err (message (Err (Refused f)))) same said)
refuses_faults run err answer (Err (CannotRead name)) cause said answered = λ job texts fault is told fits found inputs.
    absurd (still_or_rose _ _ (inputs name (among run.source (names_asked run.asked) name cause.at)) cause.at.rose)
refuses_faults run err answer (Err CannotWrite) cause said answered = λ job texts fault is told fits found inputs.
    no_fault (refusal job texts) fault (subst (λ (j : Job). refusal j texts ≡ None) (one_job run.asked job cause.job is cause.asked) (cause.accepted texts told).no_fault) found
refuses_faults run err answer (Err NoMemory) cause said answered = λ job texts fault is told fits found inputs. inr answered

-- a status is one alone
pub blames_device : (run : Run) (answer : Status) (outcome : Result Ending Failure) → Cause run outcome → answer ≡ status_of outcome → BlamesDevice run answer
blames_device run answer (Ok (Done notes)) cause answered = λ device. cc
blames_device run answer (Ok Violated) cause answered = λ device. cc
blames_device run answer (Err Usage) cause answered = λ device. cc
blames_device run answer (Err TooLarge) cause answered = λ device. cc
blames_device run answer (Err (Refused fault)) cause answered = λ device. cc
blames_device run answer (Err (CannotRead name)) cause answered = λ device. inl (name, among run.source (names_asked run.asked) name cause.at, cause.at.rose)
blames_device run answer (Err CannotWrite) cause answered = λ device. inr cause.rose
blames_device run answer (Err NoMemory) cause answered = λ device. cc

pub blames_words : (run : Run) (answer : Status) (outcome : Result Ending Failure) → Cause run outcome → answer ≡ status_of outcome → BlamesWords run.asked answer
blames_words run answer (Ok (Done notes)) cause answered = (λ usage. cc, λ nothing. asks run.asked cause.job cause.asked nothing)
blames_words run answer (Ok Violated) cause answered = (λ usage. cc, λ nothing. asks run.asked cause.job cause.asked nothing)
blames_words run answer (Err Usage) cause answered = (λ usage. cause.asked, λ nothing. inl answered)
blames_words run answer (Err TooLarge) cause answered = (λ usage. cc, λ nothing. asks_nothing run.asked cause.asked nothing)
blames_words run answer (Err (Refused fault)) cause answered = (λ usage. cc, λ nothing. asks run.asked cause.job cause.asked nothing)
blames_words run answer (Err (CannotRead name)) cause answered = (λ usage. cc, λ nothing. names_something run.asked name (among run.source (names_asked run.asked) name cause.at) nothing)
blames_words run answer (Err CannotWrite) cause answered = (λ usage. cc, λ nothing. asks run.asked cause.job cause.asked nothing)
blames_words run answer (Err NoMemory) cause answered = (λ usage. cc, λ nothing. inr answered)

-- where less than all was taken, not all was
pub acknowledges : (run : Run) (answer : Status) (outcome : Result Ending Failure) → Cause run outcome → answer ≡ status_of outcome → AcknowledgesReport run answer
acknowledges run answer (Ok (Done notes)) cause answered = λ texts before told tells some took no_memory. cc
acknowledges run answer (Ok Violated) cause answered = λ texts before told tells some took no_memory. cc
acknowledges run answer (Err Usage) cause answered = λ texts before told tells some took no_memory. cc
acknowledges run answer (Err TooLarge) cause answered = λ texts before told tells some took no_memory. cc
acknowledges run answer (Err (Refused fault)) cause answered = λ texts before told tells some took no_memory. cc
acknowledges run answer (Err (CannotRead name)) cause answered = λ texts before told tells some took no_memory. cc
acknowledges run answer (Err CannotWrite) cause answered = λ texts before told tells some took no_memory. cc
acknowledges run answer (Err NoMemory) cause answered = λ texts before told tells some took no_memory.
    let text = output run.asked texts in
    TookLess-not_all before run.out.after text
    (subst (λ (known : Option (List ℕ)). TookLess known run.out.after text) tells (cause.less texts told))
    (subst (λ (known : Option (List ℕ)). run.out.after ≡ append_known known text) tells took.taken) some

-- a run that says that the words ask for nothing ended so
pub usage_ended : (ended said : Result Ending Failure) (answer : Status) → answer ≡ status_of said → answer ≡ status.Usage
    → (said ≡ ended) ⊎ ((said ≡ Err NoMemory) × IsErrAnd ended NamesSomething) → ended ≡ Err Usage
usage_ended ended (Err Usage) answer answered usage which = elim which [ inl same ↦ sym same | inr memory ↦ cc memory.0 ]
usage_ended ended (Ok (Done notes)) answer answered usage which = cc
usage_ended ended (Ok Violated) answer answered usage which = cc
usage_ended ended (Err TooLarge) answer answered usage which = cc
usage_ended ended (Err (Refused fault)) answer answered usage which = cc
usage_ended ended (Err (CannotRead name)) answer answered usage which = cc
usage_ended ended (Err CannotWrite) answer answered usage which = cc
usage_ended ended (Err NoMemory) answer answered usage which = cc
