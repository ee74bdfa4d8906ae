-- The packet that is found breaks the statement of its line, as the line names its ends. For PromiseLemmas.
use Rattle.std.proofs.Common.{◌≡◌, List, not, Contains, Ok, sym, ap, subst}
use Rattle.std.proofs.lemmas.Bool.{and_from, and_parts, not-true}
use Rattle.std.proofs.lemmas.List.Elements.{All-contains}
use Rattle.np_check.specs.Prelude.{IsBroken, IsEndOf, IsFirstBroken, allows_between, complies}
use Rattle.np_command_check.specs.Prelude.{AskedLine, At, Breaks, BreaksFirst, Broken, Counterexample, EndForm, Ends, EstateLists, IsFirstBrokenLine, NamesPlace, PlaceEnd, StatementLine, StatementText, Work}
use Rattle.np_check.specs.declared.question.Question.{Question}
use Rattle.np_command_check.proofs.KnownLemmas.{pod-of}
use Rattle.np_conns.specs.Prelude.{has_spot}
use Rattle.np_fold.specs.Prelude.{folding_of}
use Rattle.np_model.specs.Prelude.{IsLawful}
use Rattle.np_statements.proofs.EndLemmas.{ends_of-are}
use Rattle.np_statements.proofs.FormLemmas.{names-addresses, names-pods}
use Rattle.np_statements.proofs.FoundLemmas.{asked-by}
use Rattle.np_statements.specs.Prelude.{IsFirstBrokenLine as IsFoundLine, ends_of}
use Rattle.np_kinds.specs.Prelude.{IsWorkload, source_pod}

-- ---- ends

-- an end of a side is named by its form
place-named : (lists : EstateLists) (form : EndForm) (ends : Ends) (place : PlaceEnd) → IsLawful lists → ends_of lists form ≡ Ok ends → IsEndOf ends place → NamesPlace lists form place
place-named lists form ends (Work work) lawful found is =
    let one : IsWorkload lists work = All-contains (IsWorkload lists) ends.works work (ends_of-are lists form ends found).works is in
    let place = source_pod (folding_of lists) work in
    let pod = pod-of lists work one in
    (place, (pod.within, (names-pods lists form ends place lawful found pod.within).0 (subst (Contains ends.works) (sym pod.number) is)), pod.number)
place-named lists form ends (At address) lawful found is = (is.0, (names-addresses lists form ends address found is.0).0 is.1)

-- and what the form names is an end of the side
named-place : (lists : EstateLists) (form : EndForm) (ends : Ends) (place : PlaceEnd) → IsLawful lists → ends_of lists form ≡ Ok ends → NamesPlace lists form place → IsEndOf ends place
named-place lists form ends (Work work) lawful found (place, named, number) =
    subst (Contains ends.works) number ((names-pods lists form ends place lawful found named.0).1 named.1)
named-place lists form ends (At address) lawful found named = (named.0, (names-addresses lists form ends address found named.0).1 named.1)

-- ---- packets

abbrev question_of : StatementText → Ends → Ends → Question
question_of statement source destination = record { wanted = statement.wanted; source = source; destination = destination; conns = statement.conns }

module _ (lists : EstateLists) (statement : StatementText) (source destination : Ends) (lawful : IsLawful lists) (sources : ends_of lists statement.source ≡ Ok source)
    (destinations : ends_of lists statement.destination ≡ Ok destination) where
  to-breaks : (packet : Counterexample) → IsBroken lists (question_of statement source destination) packet → Breaks lists statement packet
  to-breaks packet is =
      let complied = complies statement.wanted (allows_between lists packet.source packet.destination packet.family packet.spot) in
      let parts = and_parts (has_spot statement.conns packet.spot) (not complied) is.broken in
      record {
        from = place-named lists statement.source source packet.source lawful sources is.from;
        to = place-named lists statement.destination destination packet.destination lawful destinations is.to;
        listed = is.listed;
        at_port = (is.spot, parts.0);
        unwanted = not-true complied parts.1;
      }

  from-breaks : (packet : Counterexample) → Breaks lists statement packet → IsBroken lists (question_of statement source destination) packet
  from-breaks packet is =
      let complied = complies statement.wanted (allows_between lists packet.source packet.destination packet.family packet.spot) in
      record {
        from = named-place lists statement.source source packet.source lawful sources is.from;
        to = named-place lists statement.destination destination packet.destination lawful destinations is.to;
        listed = is.listed;
        spot = is.at_port.0;
        broken = and_from (has_spot statement.conns packet.spot) (not complied) is.at_port.1 (ap not is.unwanted);
      }

  breaks-first : (packet : Counterexample) → IsFirstBroken lists (question_of statement source destination) packet → BreaksFirst lists statement packet
  breaks-first packet first = record {
    own = to-breaks packet first.own;
    by_source = λ other breaks. first.by_source other (from-breaks other breaks);
    by_destination = λ other breaks. first.by_destination other (from-breaks other breaks);
    by_family = λ other breaks. first.by_family other (from-breaks other breaks);
    by_proto = λ other breaks. first.by_proto other (from-breaks other breaks);
    by_port = λ other breaks. first.by_port other (from-breaks other breaks);
  }

-- ---- lines

pub first-line : (lists : EstateLists) (lines : List StatementLine) (broken : Broken) → IsLawful lists → IsFoundLine lists lines broken → IsFirstBrokenLine lists lines broken
first-line lists lines broken lawful is =
    let by = asked-by lists is.line is.asked is.is_asked in
    let first = subst (λ (one : AskedLine). IsFirstBroken lists one.question broken.packet) (sym by.is) is.first in
    record {
      before = is.before;
      line = is.line;
      behind = is.behind;
      place = is.place;
      number = is.number;
      earlier_hold = is.earlier_hold;
      fails = is.fails;
      first = breaks-first lists is.line.statement by.source by.destination lawful by.sources by.destinations broken.packet first;
      verdict = is.verdict;
    }
