-- Lines that are broken, and the first of them. For `broken_of`, `lines_ask_what_their_statements_say` and 3 more.
use Rattle.std.proofs.Common.{◌≡◌, ℕ, ◌↔◌, not, List, [], ◌∷◌, Bool, false, Option, Some, None, Ok, All, option_map, refl, sym, ap, subst, ◌∙◌}
use Rattle.std.specs.Option.{option_or}
use Rattle.std.proofs.lemmas.Bool.{and_parts, not-false, not-true}
use Rattle.std.proofs.lemmas.List.Elements.{All-cons, All-contains, All-head, All-nil, All-same, All-tail, All-weaker}
use Rattle.std.proofs.lemmas.Option.{none-some, same_Some}
use Rattle.np_check.proofs.FirstLemmas.{none_each}
use Rattle.np_check.proofs.HoldLemmas.{found_none, holds}
use Rattle.np_check.proofs.LeastLemmas.{first_broken as first_packet}
use Rattle.np_check.proofs.NoneLemmas.{none_all, none_map}
use Rattle.np_check.specs.Prelude.{Holds, IsEndOf, IsOf, complies, counterexample_of, first_given}
use Rattle.np_statements.specs.Prelude.{Allow, AskedLine, At, Broken, Counterexample, Deny, Ends, EstateLists, IsAsked, IsFirstBrokenLine, IsNamedPod, IsPlace, IsQuestion, IsWellLine, LineHolds, PlaceEnd, Question, StatementLine, Wanted, asked_line, broken_by, broken_of, ends_found, first_broken, is_allowed_counterexample}
use Rattle.np_check.specs.declared.counterexample.PlaceEnd.TheVariants.{Work}
use Rattle.np_conns.specs.Prelude.{has_spot}
use Rattle.np_model.specs.Prelude.{IsLawful}
use Rattle.np_statements.proofs.FormLemmas.{names-addresses, names-pods}
use Rattle.np_statements.proofs.FoundLemmas.{AreFoundBy, IsAskedBy, all-known, asked-by, found-by}
use Rattle.np_statements.proofs.StepLemmas.{same_ok}
use Rattle.np_kinds.specs.Prelude.{IsWorkload}

-- ---- one line

-- a line without such a packet is not broken
pub not_broken : (lists : EstateLists) (asked : AskedLine) → counterexample_of lists asked.question ≡ None → None ≡ broken_of lists asked
unfolding broken_of
not_broken lists asked none = sym (ap (option_map (broken_by lists asked.line)) none)

-- the verdict of the packet is not the wanted one
unwanted : (lists : EstateLists) (question : Question) (packet : Counterexample) → IsQuestion lists question → counterexample_of lists question ≡ Some packet →
    complies question.wanted (is_allowed_counterexample lists packet) ≡ false
unwanted lists question packet is found =
    let first = first_packet lists question packet is.sources_ascend is.destinations_ascend found in
    not-true (complies question.wanted (is_allowed_counterexample lists packet)) (and_parts (has_spot question.conns packet.spot) (not (complies question.wanted (is_allowed_counterexample lists packet))) first.own.broken).1

-- and there is one such verdict
one_verdict : (wanted : Wanted) (verdict other : Bool) → complies wanted verdict ≡ false → complies wanted other ≡ false → verdict ≡ other
one_verdict Allow verdict other is also = is ∙ sym also
one_verdict Deny verdict other is also = not-false verdict is ∙ sym (not-false other also)

pub broken-is : (lists : EstateLists) (asked : AskedLine) (packet : Counterexample) (allowed : Bool) → IsAsked lists asked → counterexample_of lists asked.question ≡ Some packet →
    complies asked.question.wanted allowed ≡ false → Some (record { line = asked.line; packet = packet; allowed = allowed }) ≡ broken_of lists asked
unfolding broken_of
broken-is lists asked packet allowed is found does =
    let verdict = one_verdict asked.question.wanted allowed (is_allowed_counterexample lists packet) does (unwanted lists asked.question packet is found) in
    let with_verdict : Bool → Option Broken = λ v. Some (record { line = asked.line; packet = packet; allowed = v }) in
    ap with_verdict verdict ∙ sym (ap (option_map (broken_by lists asked.line)) found)

-- the ends of the packet are workloads or addresses
place-is : (lists : EstateLists) (ends : Ends) (place : PlaceEnd) → All (IsWorkload lists) ends.works → IsEndOf ends place → IsPlace lists place
place-is lists ends (Work work) works is = All-contains (IsWorkload lists) ends.works work works is
place-is lists ends (At address) works is = tt

pub packet-places : (lists : EstateLists) (question : Question) (packet : Counterexample) → IsQuestion lists question → counterexample_of lists question ≡ Some packet →
    IsPlace lists packet.source × IsPlace lists packet.destination
packet-places lists question packet is found =
    let first = first_packet lists question packet is.sources_ascend is.destinations_ascend found in
    (place-is lists question.source packet.source is.sources first.own.from, place-is lists question.destination packet.destination is.destinations first.own.to)

-- ---- lines that hold

-- what the question of a line asks holds
abbrev AskedHolds : EstateLists → AskedLine → Type 0
AskedHolds lists asked = Holds lists asked.question

-- so does the statement of the line, since the ends name the same pods and addresses
asked-holds : (lists : EstateLists) (line : StatementLine) (asked : AskedLine) (by : IsAskedBy lists line asked) → IsLawful lists → AskedHolds lists asked → LineHolds lists line
asked-holds lists line asked by lawful holds =
    let does : AskedHolds lists (record { line = line.line; question = record { wanted = line.statement.wanted; source = by.source; destination = by.destination; conns = line.statement.conns } }) =
    subst (AskedHolds lists) (sym by.is) holds in
    let from : (p : ℕ) (named : IsNamedPod lists line.statement.source p) → IsOf lists p by.source = λ p named.
    (named.0, (names-pods lists line.statement.source by.source p lawful by.sources named.0).1 named.1) in
    let to : (q : ℕ) (named : IsNamedPod lists line.statement.destination q) → IsOf lists q by.destination = λ q named.
    (named.0, (names-pods lists line.statement.destination by.destination q lawful by.destinations named.0).1 named.1) in
    record {
      pods = λ p q family spot source destination apart listed at. does.pods p q family spot (from p source) (to q destination) apart listed at;
      to_addresses = λ p address spot source destination at. does.to_addresses p address spot (from p source)
          (destination.0, (names-addresses lists line.statement.destination by.destination address by.destinations destination.0).1 destination.1) at;
      from_addresses = λ address q spot source destination at. does.from_addresses address q spot
          (source.0, (names-addresses lists line.statement.source by.source address by.sources source.0).1 source.1) (to q destination) at;
    }

holds-asked : (lists : EstateLists) (line : StatementLine) (asked : AskedLine) (by : IsAskedBy lists line asked) → IsLawful lists → LineHolds lists line → AskedHolds lists asked
holds-asked lists line asked by lawful does =
    let from : (p : ℕ) (one : IsOf lists p by.source) → IsNamedPod lists line.statement.source p = λ p one.
    (one.0, (names-pods lists line.statement.source by.source p lawful by.sources one.0).0 one.1) in
    let to : (q : ℕ) (one : IsOf lists q by.destination) → IsNamedPod lists line.statement.destination q = λ q one.
    (one.0, (names-pods lists line.statement.destination by.destination q lawful by.destinations one.0).0 one.1) in
    subst (AskedHolds lists) by.is (record {
      pods = λ p q family spot source destination apart listed at. does.pods p q family spot (from p source) (to q destination) apart listed at;
      to_addresses = λ p address spot source destination at. does.to_addresses p address spot (from p source)
          (destination.0, (names-addresses lists line.statement.destination by.destination address by.destinations destination.0).0 destination.1) at;
      from_addresses = λ address q spot source destination at. does.from_addresses address q spot
          (source.0, (names-addresses lists line.statement.source by.source address by.sources source.0).0 source.1) (to q destination) at;
    })

pub asks-says : (lists : EstateLists) (line : StatementLine) (asked : AskedLine) → IsLawful lists → asked_line lists line ≡ Ok asked → Holds lists asked.question ↔ LineHolds lists line
asks-says lists line asked lawful is =
    let by = asked-by lists line asked is in
    (asked-holds lists line asked by lawful, holds-asked lists line asked by lawful)

all-hold : (lists : EstateLists) (lines : List StatementLine) (asked : List AskedLine) → IsLawful lists → ends_found lists lines ≡ Ok asked → All (AskedHolds lists) asked → All (LineHolds lists) lines
all-hold lists [] asked lawful is all = All-nil (LineHolds lists)
all-hold lists (line ∷ lines) asked lawful is all =
    let by = found-by lists line lines asked is in
    let own : All (AskedHolds lists) (by.first ∷ by.others) = subst (All (AskedHolds lists)) (sym by.are) all in
    All-cons (LineHolds lists) line lines ((asks-says lists line by.first lawful by.first_is).0 (All-head (AskedHolds lists) by.first by.others own))
    (all-hold lists lines by.others lawful by.others_are (All-tail (AskedHolds lists) by.first by.others own))

hold-all : (lists : EstateLists) (lines : List StatementLine) (asked : List AskedLine) → IsLawful lists → ends_found lists lines ≡ Ok asked → All (LineHolds lists) lines → All (AskedHolds lists) asked
hold-all lists [] asked lawful is all = All-same (AskedHolds lists) asked [] (sym (same_ok [] asked is)) (All-nil (AskedHolds lists))
hold-all lists (line ∷ lines) asked lawful is all =
    let by = found-by lists line lines asked is in
    subst (All (AskedHolds lists)) by.are
    (All-cons (AskedHolds lists) by.first by.others ((asks-says lists line by.first lawful by.first_is).1 (All-head (LineHolds lists) line lines all))
    (hold-all lists lines by.others lawful by.others_are (All-tail (LineHolds lists) line lines all)))

-- ---- no broken line

unbroken-holds : (lists : EstateLists) (asked : AskedLine) → IsLawful lists → broken_of lists asked ≡ None → AskedHolds lists asked
unfolding broken_of
unbroken-holds lists asked lawful none = holds lists asked.question lawful (none_map (broken_by lists asked.line) (counterexample_of lists asked.question) none)

pub nothing-broken : (lists : EstateLists) (lines : List StatementLine) (asked : List AskedLine) → IsLawful lists → All IsWellLine lines → ends_found lists lines ≡ Ok asked →
    (first_broken lists asked ≡ None) ↔ All (LineHolds lists) lines
unfolding first_broken
nothing-broken lists lines asked lawful well found = (
  λ none. all-hold lists lines asked lawful found (All-weaker (λ one. broken_of lists one ≡ None) (AskedHolds lists) (λ one unbroken. unbroken-holds lists one lawful unbroken) asked
      (none_each (broken_of lists) asked none)),
  λ all. none_all (broken_of lists) asked (λ one has.
      let is = All-contains (IsAsked lists) asked one (all-known lists lines asked well found) has in
      sym (not_broken lists one (found_none lists one.question lawful is.sources is.destinations (All-contains (AskedHolds lists) asked one (hold-all lists lines asked lawful found all) has)))),
)

-- ---- the first broken line

record IsBrokenBy (lists : EstateLists) (asked : AskedLine) (broken : Broken) : Type 0 where
  packet : Counterexample
  found : counterexample_of lists asked.question ≡ Some packet
  is : broken ≡ broken_by lists asked.line packet

broken-by : (lists : EstateLists) (asked : AskedLine) (broken : Broken) → broken_of lists asked ≡ Some broken → IsBrokenBy lists asked broken
unfolding broken_of
broken-by lists asked broken is = of (counterexample_of lists asked.question) refl is
  where
    of : (found : Option Counterexample) → counterexample_of lists asked.question ≡ found → option_map (broken_by lists asked.line) found ≡ Some broken → IsBrokenBy lists asked broken
    of None none is = absurd (none-some broken is)
    of (Some packet) found is = record { packet = packet; found = found; is = sym (same_Some (broken_by lists asked.line packet) broken is) }

at_first : (lists : EstateLists) (line : StatementLine) (lines : List StatementLine) (asked : AskedLine) (broken : Broken) → IsLawful lists → IsAsked lists asked → asked_line lists line ≡ Ok asked →
    broken_of lists asked ≡ Some broken → IsFirstBrokenLine lists (line ∷ lines) broken
at_first lists line lines asked broken lawful known found is =
    let asks = asked-by lists line asked found in
    let by = broken-by lists asked broken is in
    let own_number : asked.line ≡ line.line = ap (λ (one : AskedLine). one.line) (sym asks.is) in
    let own_wanted : line.statement.wanted ≡ asked.question.wanted = ap (λ (one : AskedLine). one.question.wanted) asks.is in
    subst (IsFirstBrokenLine lists (line ∷ lines)) (sym by.is) (record {
      before = [];
      line = line;
      behind = lines;
      place = refl;
      number = own_number;
      earlier_hold = All-nil (LineHolds lists);
      fails = λ does. none-some by.packet (sym (found_none lists asked.question lawful known.sources known.destinations (holds-asked lists line asked asks lawful does)) ∙ by.found);
      asked = asked;
      is_asked = found;
      first = first_packet lists asked.question by.packet known.sources_ascend known.destinations_ascend by.found;
      verdict = refl;
      unwanted = ap (λ (wanted : Wanted). complies wanted (is_allowed_counterexample lists by.packet)) own_wanted ∙ unwanted lists asked.question by.packet known by.found;
    })

later : (lists : EstateLists) (line : StatementLine) (lines : List StatementLine) (broken : Broken) → LineHolds lists line → IsFirstBrokenLine lists lines broken →
    IsFirstBrokenLine lists (line ∷ lines) broken
later lists line lines broken does rest = record {
  before = line ∷ rest.before;
  line = rest.line;
  behind = rest.behind;
  place = ap (λ (all : List StatementLine). line ∷ all) rest.place;
  number = rest.number;
  earlier_hold = All-cons (LineHolds lists) line rest.before does rest.earlier_hold;
  fails = rest.fails;
  asked = rest.asked;
  is_asked = rest.is_asked;
  first = rest.first;
  verdict = rest.verdict;
  unwanted = rest.unwanted;
}

pub first-is : (lists : EstateLists) (lines : List StatementLine) (asked : List AskedLine) (broken : Broken) → IsLawful lists → All IsWellLine lines → ends_found lists lines ≡ Ok asked →
    first_given (broken_of lists) asked ≡ Some broken → IsFirstBrokenLine lists lines broken
first-is lists [] asked broken lawful well found is = absurd (none-some broken (ap (first_given (broken_of lists)) (same_ok [] asked found) ∙ is))
first-is lists (line ∷ lines) asked broken lawful well found is =
    let by = found-by lists line lines asked found in
    let known : All (IsAsked lists) (by.first ∷ by.others) = subst (All (IsAsked lists)) (sym by.are) (all-known lists (line ∷ lines) asked well found) in
    of by (All-head (IsAsked lists) by.first by.others known) (broken_of lists by.first) refl (ap (first_given (broken_of lists)) by.are ∙ is)
    (first-is lists lines by.others broken lawful (All-tail IsWellLine line lines well) by.others_are)
  where
    of : (by : AreFoundBy lists line lines asked) → IsAsked lists by.first → (one : Option Broken) → broken_of lists by.first ≡ one →
        option_or (broken_of lists by.first) (first_given (broken_of lists) by.others) ≡ Some broken → (first_given (broken_of lists) by.others ≡ Some broken → IsFirstBrokenLine lists lines broken) →
        IsFirstBrokenLine lists (line ∷ lines) broken
    of by known None none is rest =
        later lists line lines broken ((asks-says lists line by.first lawful by.first_is).0 (unbroken-holds lists by.first lawful none))
        (rest (sym (ap (λ (one : Option Broken). option_or one (first_given (broken_of lists) by.others)) none) ∙ is))
    of by known (Some one) here is rest =
        at_first lists line lines by.first broken lawful known by.first_is (here ∙ sym (ap (λ (found : Option Broken). option_or found (first_given (broken_of lists) by.others)) here) ∙ is)
