-- What a run on files in memory answers. For `answer_counted`.
use Rattle.std.proofs.Common.{◌≡◌, ℕ, zero, suc, ◌<◌, List, [], ◌∷◌, Option, Some, None, is_some, true, false, Result, Ok, Err, map, refl, sym, ap, subst, ◌∙◌, inl, inr, arith}
use Rattle.std.proofs.lemmas.Bool.{false≢true}
use Rattle.std.proofs.lemmas.Option.{same_Some}
use Rattle.np_io.specs.Prelude.{Rose, bytes_of}
use Rattle.np_io.specs.declared.held.Held.{Held}
use Rattle.np_cli.specs.Prelude.{Bytes, CannotRead, CannotWrite, Cause, Ending, Failure, Fault, HaveFault, Job, KnowsBytes, NoMemory, Promises, Refused, Run, Says, SaysOfTexts, Status, TooLarge, Usage, answer_to, holding, message, outcome_on, output, printed_text, refusal, status_of}
use Rattle.np_cli.specs.declared.in_memory.Answered.{Answered}
use Rattle.np_cli.proofs.OutcomesLemmas.{Leaves-caused, fault-text}
use Rattle.np_cli.proofs.PromisesLemmas.{one_job}
use Rattle.np_command.specs.Prelude.{Said, SinkTrace}
use Rattle.np_frame.specs.Prelude.{AreTold, is_too_large}
use Rattle.np_command.specs.declared.status.Status.TheVariants as status

-- files in memory tell their bytes
pub told : (files : List Held) (names : List (List ℕ)) → AreTold (λ name. Some (bytes_of files name)) (Some []) names (map (bytes_of files) names)
told files [] = tt
told files (name ∷ names) = (record { holding = refl; what_is_left = refl }, told files names)

too_large : (asked : Option Job) (texts : List (List ℕ)) → is_some asked ≡ true → is_too_large texts ≡ true → Err TooLarge ≡ outcome_on asked texts
too_large None texts some large = cc
too_large (Some job) texts some large = rw large refl

-- without a failing call, and with memory, the bytes determine how a run ends
outcome-is : (run : Run) (outcome : Result Ending Failure) (texts : List (List ℕ)) → Cause run outcome → KnowsBytes run texts
    → ((name : List ℕ) → Rose (run.source.faults_before name) (run.source.faults_after name) → ⊥) → (Rose run.out.faults_before run.out.faults_after → ⊥)
    → (outcome ≡ Err NoMemory → ⊥) → outcome ≡ outcome_on run.asked texts
outcome-is run (Ok ends) texts cause tells reads writes other =
    let reported = cause.told texts tells in
    rw (cause.asked, reported.accepted.fits, reported.accepted.no_fault) (ap Ok reported.ended)
outcome-is run (Err Usage) texts cause tells reads writes other = rw cause.asked refl
outcome-is run (Err TooLarge) texts cause tells reads writes other = too_large run.asked texts cause.asked (cause.over.large texts tells)
outcome-is run (Err (Refused fault)) texts cause tells reads writes other = rw (cause.asked, cause.fits texts tells, cause.found texts tells) refl
outcome-is run (Err (CannotRead name)) texts cause tells reads writes other = absurd (reads name cause.at.rose)
outcome-is run (Err CannotWrite) texts cause tells reads writes other = absurd (writes cause.rose)
outcome-is run (Err NoMemory) texts cause tells reads writes other = absurd (other refl)

refused-output : (asked : Option Job) (job : Job) (fault : Fault) (texts : List (List ℕ)) → asked ≡ Some job → is_too_large texts ≡ false → refusal job texts ≡ Some fault → output asked texts ≡ []
unfolding output printed_text refusal
refused-output asked job fault texts is fits found = rw (is, fits) (fault-text _ fault found)

large-output : (asked : Option Job) (texts : List (List ℕ)) → is_too_large texts ≡ true → output asked texts ≡ []
unfolding output
large-output None texts large = refl
large-output (Some job) texts large = rw large refl

no-output : (asked : Option Job) (texts : List (List ℕ)) → asked ≡ None → output asked texts ≡ []
unfolding output
no-output asked texts nothing = rw nothing refl

-- so does its report
output-is : (run : Run) (outcome : Result Ending Failure) (texts : List (List ℕ)) → Cause run outcome → KnowsBytes run texts
    → ((name : List ℕ) → Rose (run.source.faults_before name) (run.source.faults_after name) → ⊥) → (Rose run.out.faults_before run.out.faults_after → ⊥)
    → (outcome ≡ Err NoMemory → ⊥) → run.out.before ≡ Some [] → run.out.after ≡ Some (output run.asked texts)
output-is run (Ok ends) texts cause tells reads writes other none =
    let took = (cause.told texts tells).took in took.taken ∙ rw none refl
output-is run (Err Usage) texts cause tells reads writes other none = rw (no-output run.asked texts cause.asked) (cause.kept.taken ∙ none)
output-is run (Err TooLarge) texts cause tells reads writes other none = rw (large-output run.asked texts (cause.over.large texts tells)) (cause.kept.taken ∙ none)
output-is run (Err (Refused fault)) texts cause tells reads writes other none =
    rw (refused-output run.asked cause.job fault texts cause.asked (cause.fits texts tells) (cause.found texts tells)) (cause.kept.taken ∙ none)
output-is run (Err (CannotRead name)) texts cause tells reads writes other none = absurd (reads name cause.at.rose)
output-is run (Err CannotWrite) texts cause tells reads writes other none = absurd (writes cause.rose)
output-is run (Err NoMemory) texts cause tells reads writes other none = absurd (other refl)

-- what was said, on a sink that took nothing before
said-is : (err : SinkTrace) (text : List ℕ) → Said err text → (Rose err.faults_before err.faults_after → ⊥) → err.before ≡ Some [] → err.after ≡ Some text
said-is err text said writes none = elim said [ inl whole ↦ whole.taken ∙ rw none refl | inr front ↦ absurd (writes front.1) ]

pub holding-is : (out : SinkTrace) (report : List ℕ) → out.before ≡ Some [] → out.after ≡ Some report → out.faults_before ≡ 0 → out.faults_after ≡ 0 → out ≡ holding report
holding-is out report none all before after = λ i. record { before = none i; after = all i; faults_before = before i; faults_after = after i }

-- a fault that ends it is one of the bytes
fault-is : (run : Run) (outcome : Result Ending Failure) (texts : List (List ℕ)) (job : Job) (fault : Fault) → Cause run outcome → KnowsBytes run texts
    → run.asked ≡ Some job → outcome ≡ Err (Refused fault) → HaveFault job texts fault
fault-is run outcome texts job fault cause tells is refused =
    let why : Cause run (Err (Refused fault)) = subst (Cause run) refused cause in
    let left = Leaves-caused run (Err (Refused fault)) why in
    subst (λ (j : Job). HaveFault j texts fault) (one_job run.asked job left.inputs.job is left.inputs.asked) (left.found texts tells)

pub unfailed : (count : ℕ) → (0 < count → false ≡ true) → count ≡ 0
unfailed zero fails = refl
unfailed (suc count) fails = absurd (false≢true (fails (omega arith)))

-- no count rose that stands at 0
pub unrisen : (old new : ℕ) → old ≡ 0 → new ≡ 0 → Rose old new → ⊥
unrisen old new before after rose = elim rose [ inl more ↦ omega (arith, after) | inr end ↦ omega (arith, after) ]

-- what is promised of a run on these bytes, where no call failed and memory sufficed
pub answered : (run : Run) (err : SinkTrace) (answer : Status) (texts : List (List ℕ)) (report said : List ℕ)
    → Promises run err answer → Bytes run err answer → KnowsBytes run texts
    → ((name : List ℕ) → Rose (run.source.faults_before name) (run.source.faults_after name) → ⊥)
    → run.out ≡ holding report → err ≡ holding said → (answer ≡ status.NoMemory → ⊥)
    → SaysOfTexts run.asked texts (record { report = report; said = said; status = answer })
    × (◌≡◌ {A = Answered} (record { report = report; said = said; status = answer }) (answer_to run.asked texts))
answered run err answer texts report said promises bytes tells reads out_is err_is other =
    let outcome = bytes.ends.outcome in
    let cause = bytes.ends.cause in
    let writes = unrisen run.out.faults_before run.out.faults_after (ap (λ (out : SinkTrace). out.faults_before) out_is) (ap (λ (out : SinkTrace). out.faults_after) out_is) in
    let says = unrisen err.faults_before err.faults_after (ap (λ (out : SinkTrace). out.faults_before) err_is) (ap (λ (out : SinkTrace). out.faults_after) err_is) in
    let memory : outcome ≡ Err NoMemory → ⊥ = λ lacks. other (bytes.ends.answered ∙ ap status_of lacks) in
    let is : outcome ≡ outcome_on run.asked texts = outcome-is run outcome texts cause tells reads writes memory in
    let wrote = output-is run outcome texts cause tells reads writes memory (ap (λ (out : SinkTrace). out.before) out_is) in
    let heard = said-is err (message outcome) bytes.ends.said says (ap (λ (out : SinkTrace). out.before) err_is) in
    let same_report : report ≡ output run.asked texts = same_Some report (output run.asked texts) (sym (ap (λ (out : SinkTrace). out.after) out_is) ∙ wrote) in
    let same_said : said ≡ message (outcome_on run.asked texts) = same_Some said (message outcome) (sym (ap (λ (out : SinkTrace). out.after) err_is) ∙ heard) ∙ ap message is in
    let same_status : answer ≡ status_of (outcome_on run.asked texts) = bytes.ends.answered ∙ ap status_of is in (
      record {
        says = λ job ends asked ended. subst (λ (out : SinkTrace). Says job ends texts out) out_is (promises.says job texts ends asked tells ended);
        refuses = λ job fault asked refused. fault-is run outcome texts job fault cause tells asked (is ∙ refused);
      },
      λ i. record { report = same_report i; said = same_said i; status = same_status i },
    )
