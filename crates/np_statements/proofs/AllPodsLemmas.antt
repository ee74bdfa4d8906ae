-- Statements of any pod and any pod, asked at once. For `first_broken` and `hold_together`.
use Rattle.std.proofs.Common.{◌≡◌, ℕ, ◌+◌, ◌<◌, ◌&&◌, not, List, [], ◌∷◌, Bool, true, Option, Some, None, Ok, option_map, All, get_or, length, refl, sym, ap, ◌∙◌, inl, inr}
use Rattle.std.specs.List.{list_any}
use Rattle.std.proofs.lemmas.Bool.{and_from, and_parts, cases_Bool, or_left, or_right}
use Rattle.std.proofs.lemmas.List.Elements.{All-cons, All-nil}
use Rattle.np_check.proofs.LeastLemmas.{first_broken, nothing_broken}
use Rattle.np_check.specs.Prelude.{IsBroken, allows_between, complies, counterexample_of}
use Rattle.np_statements.specs.Prelude.{Addresses, Allow, AreSettled, AskedLine, Block, CheckedKinds, Counterexample, Deny, EndForm, EstateLists, HoldsOfPods, IsQuestion, Namespace, Pods, PortSpot, Question, StatementLine, Wanted, Work, all_works, asked_line, asks_at, asks_pods, broken_by, broken_of, ends_of, is_any_pod, is_same, is_settled, question_of_pods, works_alone}
use Rattle.np_conns.specs.Prelude.{Conns, has_spot}
use Rattle.np_statements.proofs.AmongLemmas.{IsLeft, one_left}
use Rattle.np_statements.proofs.EndLemmas.{AreEnds, ends_of-are}
use Rattle.np_statements.proofs.FoundLemmas.{at_turn}

-- ---- what is asked

pods_are : (lists : EstateLists) → AreEnds lists Pods (works_alone (all_works lists))
unfolding ends_of
pods_are lists = ends_of-are lists Pods (works_alone (all_works lists)) refl

pub pods-asked : (lists : EstateLists) (wanted : Wanted) (conns : Conns) → IsQuestion lists (question_of_pods lists wanted conns)
pods-asked lists wanted conns =
    let pods = pods_are lists in
    record { sources = pods.works; destinations = pods.works; sources_ascend = pods.ascend; destinations_ascend = pods.ascend; one_side = inl (pods.alone refl) }

same-is : (one other : Wanted) → is_same one other ≡ true → one ≡ other
same-is Allow Allow same = refl
same-is Allow Deny same = cc
same-is Deny Allow same = cc
same-is Deny Deny same = refl

any_pod-is : (form : EndForm) → is_any_pod form ≡ true → form ≡ Pods
any_pod-is Pods any = refl
any_pod-is Addresses any = cc
any_pod-is (Namespace name) any = cc
any_pod-is (Work name) any = cc
any_pod-is (Block cidr) any = cc

-- what the line of a statement of any pod and any pod asks
asked_by_pods : EstateLists → StatementLine → AskedLine
asked_by_pods lists line = record { line = line.line; question = question_of_pods lists line.statement.wanted line.statement.conns }

asks-pods : (lists : EstateLists) (line : StatementLine) → line.statement.source ≡ Pods → line.statement.destination ≡ Pods → asked_line lists line ≡ Ok (asked_by_pods lists line)
unfolding asked_line ends_of asked_by_pods
asks-pods lists line source destination = rw (source, destination) refl

-- ---- where all of them hold

-- what breaks one of them breaks that of all
broken_in_all : (lists : EstateLists) (wanted : Wanted) (all : Conns) (line : StatementLine) (packet : Counterexample) →
    ((spot : PortSpot) → asks_at wanted spot line ≡ true → has_spot all spot ≡ true) → asks_pods wanted line.statement ≡ true →
    IsBroken lists (question_of_pods lists line.statement.wanted line.statement.conns) packet → IsBroken lists (question_of_pods lists wanted all) packet
broken_in_all lists wanted all line packet within asks own =
    let allowed = allows_between lists packet.source packet.destination packet.family packet.spot in
    let parts = and_parts (has_spot line.statement.conns packet.spot) (not (complies line.statement.wanted allowed)) own.broken in
    let asked = and_parts (is_same line.statement.wanted wanted && is_any_pod line.statement.source) (is_any_pod line.statement.destination) asks in
    let same = same-is line.statement.wanted wanted (and_parts (is_same line.statement.wanted wanted) (is_any_pod line.statement.source) asked.0).0 in
    record {
      from = own.from;
      to = own.to;
      listed = own.listed;
      spot = own.spot;
      broken = and_from (has_spot all packet.spot) (not (complies wanted allowed))
          (within packet.spot (and_from (asks_pods wanted line.statement) (has_spot line.statement.conns packet.spot) asks parts.0))
          (sym (ap (λ (one : Wanted). not (complies one allowed)) same) ∙ parts.1);
    }

one_holds : (lists : EstateLists) (wanted : Wanted) (all : Conns) (line : StatementLine) → counterexample_of lists (question_of_pods lists wanted all) ≡ None →
    ((spot : PortSpot) → asks_at wanted spot line ≡ true → has_spot all spot ≡ true) → HoldsOfPods lists wanted line
one_holds lists wanted all line none within asks = of (counterexample_of lists question) refl
  where
    question : Question
    question = question_of_pods lists line.statement.wanted line.statement.conns

    of : (found : Option Counterexample) → counterexample_of lists question ≡ found → counterexample_of lists question ≡ None
    of None is = is
    of (Some packet) is =
        let pods = pods_are lists in
        absurd (nothing_broken lists (question_of_pods lists wanted all) packet none
        (broken_in_all lists wanted all line packet within asks (first_broken lists question packet pods.ascend pods.ascend is).own))

each_holds : (lists : EstateLists) (wanted : Wanted) (all : Conns) (lines : List StatementLine) → counterexample_of lists (question_of_pods lists wanted all) ≡ None →
    ((spot : PortSpot) → list_any (λ line. asks_at wanted spot line) lines ≡ true → has_spot all spot ≡ true) → All (HoldsOfPods lists wanted) lines
each_holds lists wanted all [] none within = All-nil (HoldsOfPods lists wanted)
each_holds lists wanted all (line ∷ lines) none within =
    All-cons (HoldsOfPods lists wanted) line lines
    (one_holds lists wanted all line none (λ spot asks. within spot (or_left (asks_at wanted spot line) (list_any (λ one. asks_at wanted spot one) lines) asks)))
    (each_holds lists wanted all lines none (λ spot any. within spot (or_right (asks_at wanted spot line) (list_any (λ one. asks_at wanted spot one) lines) any)))

-- where nothing breaks what all of them ask, each holds
pub hold-together : (lists : EstateLists) (wanted : Wanted) (all : Conns) (lines : List StatementLine) → counterexample_of lists (question_of_pods lists wanted all) ≡ None →
    ((spot : PortSpot) → has_spot all spot ≡ list_any (λ line. asks_at wanted spot line) lines) → All (HoldsOfPods lists wanted) lines
hold-together lists wanted all lines none are = each_holds lists wanted all lines none (λ spot any. are spot ∙ any)

-- ---- in a loop

settled-none : (lists : EstateLists) (settled : CheckedKinds) (lines : List StatementLine) (i : ℕ) (line : StatementLine) → (i < length lines) × (line ≡ get_or lines i line) →
    AreSettled lists settled lines → is_settled settled line.statement ≡ true →
    (wanted : Wanted) × (asks_pods wanted line.statement ≡ true) × (counterexample_of lists (question_of_pods lists line.statement.wanted line.statement.conns) ≡ None)
settled-none lists settled lines i line turn are is =
    elim (cases_Bool (settled.allow && asks_pods Allow line.statement)) [
      | inl allow ↦ by Allow settled.allow (and_parts settled.allow (asks_pods Allow line.statement) allow) are.allow
      | inr other ↦ by Deny settled.deny (and_parts settled.deny (asks_pods Deny line.statement) (rw other at is)) are.deny
    ]
  where
    by : (wanted : Wanted) (known : Bool) → (known ≡ true) × (asks_pods wanted line.statement ≡ true) → (known ≡ true → All (HoldsOfPods lists wanted) lines) →
        (wanted : Wanted) × (asks_pods wanted line.statement ≡ true) × (counterexample_of lists (question_of_pods lists line.statement.wanted line.statement.conns) ≡ None)
    by wanted known both all = (wanted, both.1, at_turn (HoldsOfPods lists wanted) lines i line turn (all both.0) both.1)

-- a line that is known to hold is left out
pub settled-left : (lists : EstateLists) (settled : CheckedKinds) (lines : List StatementLine) (i next : ℕ) (line : StatementLine) → (i < length lines) × (line ≡ get_or lines i line) →
    IsLeft lists lines i → AreSettled lists settled lines → is_settled settled line.statement ≡ true → next ≡ i + 1 → IsLeft lists lines next
unfolding broken_of asked_by_pods
settled-left lists settled lines i next line turn left are is later =
    let (wanted, asks, none) = settled-none lists settled lines i line turn are is in
    let asked = and_parts (is_same line.statement.wanted wanted && is_any_pod line.statement.source) (is_any_pod line.statement.destination) asks in
    let source = any_pod-is line.statement.source (and_parts (is_same line.statement.wanted wanted) (is_any_pod line.statement.source) asked.0).1 in
    let destination = any_pod-is line.statement.destination asked.1 in
    one_left lists lines i next line (asked_by_pods lists line) None turn left (asks-pods lists line source destination)
    (sym (ap (option_map (broken_by lists line.line)) none)) refl later
