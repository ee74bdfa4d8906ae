-- Which ends of statements are found. For BrokenLemmas and PromiseLemmas.
use Rattle.std.proofs.Common.{◌≡◌, ℕ, ◌<◌, List, [], ◌∷◌, Option, Some, None, Result, Ok, Err, All, Contains, length, refl, sym, ap, subst, ◌∙◌, arith}
use Rattle.std.proofs.lemmas.List.Elements.{All-cons, All-nil}
use Rattle.np_command_check.specs.Prelude.{Addresses, AskedLine, Block, EndForm, Ends, EstateLists, IsFirstUnknown, IsKnown, Namespace, Pods, StatementLine, forms_of}
use Rattle.np_statements.specs.declared.statement_text.EndForm.TheVariants.{Work}
use Rattle.np_fold.specs.Prelude.{folding_of, number_named, workload_number}
use Rattle.np_model.specs.Prelude.{IsLawful}
use Rattle.np_statements.proofs.EndLemmas.{named-within}
use Rattle.np_statements.proofs.FormLemmas.{names-pods, number-within, unknown-named}
use Rattle.np_statements.proofs.FoundLemmas.{asked-by, found-by}
use Rattle.np_statements.proofs.StepLemmas.{same_ok}
use Rattle.np_statements.specs.Prelude.{asked_line, ends_found, ends_of, named_alone, works_alone, ◌>>=◌}
use Rattle.np_kinds.proofs.MemberLemmas.{member-number, members-some, members-within, source-member}
use Rattle.np_kinds.specs.Prelude.{IsWorkload, source_pod}

-- ---- pods of workloads

-- the first pod of a workload is one of the estate, and of the workload
pub record IsPodOf (lists : EstateLists) (work place : ℕ) : Type 0 where
  pub within : place < length lists.pods
  pub number : workload_number lists place ≡ work

pub pod-of : (lists : EstateLists) (work : ℕ) → IsWorkload lists work → IsPodOf lists work (source_pod (folding_of lists) work)
pod-of lists work is =
    let folding = folding_of lists in
    let has = source-member folding work (members-some lists folding work refl is) in
    let within = members-within lists folding work (source_pod folding work) refl is has in
    record { within = within; number = member-number lists work (source_pod folding work) within has }

-- ---- one form

-- a form whose ends are found is known
known-form : (lists : EstateLists) (form : EndForm) (ends : Ends) → IsLawful lists → ends_of lists form ≡ Ok ends → IsKnown lists form
unfolding ends_of
known-form lists Pods ends lawful is = tt
known-form lists Addresses ends lawful is = tt
known-form lists (Namespace name) ends lawful is = tt
known-form lists (Block cidr) ends lawful is = tt
known-form lists (Work name) ends lawful is = of (number_named (folding_of lists) name) refl is
  where
    of : (found : Option ℕ) → number_named (folding_of lists) name ≡ found → named_alone name found ≡ Ok ends → IsKnown lists (Work name)
    of None none alone = absurd (cc)
    of (Some work) found alone =
        let place = source_pod (folding_of lists) work in
        let pod = pod-of lists work (named-within lists name work found) in
        let same : works_alone (work ∷ []) ≡ ends = same_ok (works_alone (work ∷ [])) ends alone in
        let among : Contains ends.works (workload_number lists place) = subst (λ (one : Ends). Contains one.works (workload_number lists place)) same (0, omega arith, sym pod.number) in
        (place, (pod.within, (names-pods lists (Work name) ends place lawful is pod.within).0 among))

-- one whose ends are not is the name of no workload
record IsUnknown (lists : EstateLists) (form : EndForm) (name : List ℕ) : Type 0 where
  is : form ≡ Work name
  unknown : IsKnown lists (Work name) → ⊥

unknown-form : (lists : EstateLists) (form : EndForm) (name : List ℕ) → ends_of lists form ≡ Err name → IsUnknown lists form name
unfolding ends_of
unknown-form lists Pods name is = absurd (cc)
unknown-form lists Addresses name is = absurd (cc)
unknown-form lists (Namespace other) name is = absurd (cc)
unknown-form lists (Block cidr) name is = absurd (cc)
unknown-form lists (Work other) name is = of (number_named (folding_of lists) other) refl is
  where
    never : ends_of lists (Work name) ≡ Err name → IsKnown lists (Work name) → ⊥
    never none known = unknown-named lists name none (workload_number lists known.0) (number-within lists known.0 known.1.0) known.1.1

    of : (found : Option ℕ) → number_named (folding_of lists) other ≡ found → named_alone other found ≡ Err name → IsUnknown lists (Work other) name
    of None none alone = let same : other ≡ name = cc in record { is = ap Work same; unknown = never (ap (λ (one : List ℕ). ends_of lists (Work one)) (sym same) ∙ is) }
    of (Some work) found alone = absurd (cc)

-- ---- all forms

pub forms-known : (lists : EstateLists) (lines : List StatementLine) (asked : List AskedLine) → IsLawful lists → ends_found lists lines ≡ Ok asked → All (IsKnown lists) (forms_of lines)
forms-known lists [] asked lawful is = All-nil (IsKnown lists)
forms-known lists (line ∷ lines) asked lawful is =
    let by = found-by lists line lines asked is in
    let own = asked-by lists line by.first by.first_is in
    All-cons (IsKnown lists) line.statement.source (line.statement.destination ∷ forms_of lines) (known-form lists line.statement.source own.source lawful own.sources)
    (All-cons (IsKnown lists) line.statement.destination (forms_of lines) (known-form lists line.statement.destination own.destination lawful own.destinations)
    (forms-known lists lines by.others lawful by.others_are))

-- behind forms that are known
later : (lists : EstateLists) (line : StatementLine) (lines : List StatementLine) (name : List ℕ) → IsKnown lists line.statement.source → IsKnown lists line.statement.destination →
    IsFirstUnknown lists lines name → IsFirstUnknown lists (line ∷ lines) name
later lists line lines name source destination rest = record {
  before = line.statement.source ∷ line.statement.destination ∷ rest.before;
  behind = rest.behind;
  place = ap (λ (forms : List EndForm). line.statement.source ∷ line.statement.destination ∷ forms) rest.place;
  earlier = All-cons (IsKnown lists) line.statement.source (line.statement.destination ∷ rest.before) source (All-cons (IsKnown lists) line.statement.destination rest.before destination rest.earlier);
  unknown = rest.unknown;
}

at_source : (lists : EstateLists) (line : StatementLine) (lines : List StatementLine) (name : List ℕ) → IsUnknown lists line.statement.source name → IsFirstUnknown lists (line ∷ lines) name
at_source lists line lines name unknown = record {
  before = [];
  behind = line.statement.destination ∷ forms_of lines;
  place = ap (λ (form : EndForm). form ∷ line.statement.destination ∷ forms_of lines) unknown.is;
  earlier = All-nil (IsKnown lists);
  unknown = unknown.unknown;
}

at_destination : (lists : EstateLists) (line : StatementLine) (lines : List StatementLine) (name : List ℕ) → IsKnown lists line.statement.source →
    IsUnknown lists line.statement.destination name → IsFirstUnknown lists (line ∷ lines) name
at_destination lists line lines name source unknown = record {
  before = line.statement.source ∷ [];
  behind = forms_of lines;
  place = ap (λ (form : EndForm). line.statement.source ∷ form ∷ forms_of lines) unknown.is;
  earlier = All-cons (IsKnown lists) line.statement.source [] source (All-nil (IsKnown lists));
  unknown = unknown.unknown;
}

-- what lines ask, by what is found of the ends of the first and of the others
abbrev found_by : StatementLine → Result Ends (List ℕ) → Result Ends (List ℕ) → Result (List AskedLine) (List ℕ) → Result (List AskedLine) (List ℕ)
found_by line source destination rest =
    (source >>= (λ from. destination >>=
    (λ to. Ok (record { line = line.line; question = record { wanted = line.statement.wanted; source = from; destination = to; conns = line.statement.conns } }))))
    >>= (λ first. rest >>= (λ others. Ok (first ∷ others)))

-- the first name that no workload has
pub first-unknown : (lists : EstateLists) (lines : List StatementLine) (name : List ℕ) → IsLawful lists → ends_found lists lines ≡ Err name → IsFirstUnknown lists lines name
unfolding asked_line
first-unknown lists [] name lawful is = absurd (cc)
first-unknown lists (line ∷ lines) name lawful is =
    by (ends_of lists line.statement.source) refl (ends_of lists line.statement.destination) refl (ends_found lists lines) refl is (first-unknown lists lines name lawful)
  where
    by : (source : Result Ends (List ℕ)) → ends_of lists line.statement.source ≡ source → (destination : Result Ends (List ℕ)) → ends_of lists line.statement.destination ≡ destination →
        (rest : Result (List AskedLine) (List ℕ)) → ends_found lists lines ≡ rest → found_by line source destination rest ≡ Err name →
        (ends_found lists lines ≡ Err name → IsFirstUnknown lists lines name) → IsFirstUnknown lists (line ∷ lines) name
    by (Err other) source_is destination destination_is rest rest_is is behind =
        let same : other ≡ name = cc in at_source lists line lines name (unknown-form lists line.statement.source name (source_is ∙ ap Err same))
    by (Ok from) source_is (Err other) destination_is rest rest_is is behind =
        let same : other ≡ name = cc in
        at_destination lists line lines name (known-form lists line.statement.source from lawful source_is) (unknown-form lists line.statement.destination name (destination_is ∙ ap Err same))
    by (Ok from) source_is (Ok to) destination_is (Err other) rest_is is behind =
        let same : other ≡ name = cc in
        later lists line lines name (known-form lists line.statement.source from lawful source_is) (known-form lists line.statement.destination to lawful destination_is)
        (behind (rest_is ∙ ap Err same))
    by (Ok from) source_is (Ok to) destination_is (Ok others) rest_is is behind = absurd (cc)
