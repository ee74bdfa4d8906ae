-- What a report of `explain` says, from what was written of it, and why there is none. For crates above.
use Rattle.std.proofs.Common.{◌≡◌, ℕ, List, Bool, true, false, None, Result, Ok, Err, Some, refl, if◌then◌else◌}
use Rattle.np_command_explain.specs.Prelude.{AskedEnd, EndWord, EstateLists, ExplainedEnds, ExplainsAll, Fault, NamesSome, RefusesExplain, SameEnd, are_one, asked_end, destination_end, ends_between, ends_named, explain_ends, explain_reply, explain_text, explanations, known_ends, no_destination, no_source, one_pod, source_end}
use Rattle.np_command.specs.Prelude.{SinkTrace, TookWhole, end_text, fault_in, lists_of, text_in}
use Rattle.np_command.proofs.EndLemmas.{no_fault_at}
use Rattle.np_command_explain.proofs.ExplainLemmas.{asked-there, ends-between, ends-there, explained}
use Rattle.np_command_explain.proofs.NamedLemmas.{AsksFor, all-one, asked-is, far-named, near-named, none-asked}
use Rattle.np_fold.specs.Prelude.{folding_of}
use Rattle.np_model.specs.Prelude.{IsLawful}

no_ends : (fault : Fault) (ends : ExplainedEnds) → Err fault ≡ Ok ends → ⊥
no_ends fault ends is = cc

-- what stands for two ends
abbrev told : EstateLists → AskedEnd → AskedEnd → ExplainedEnds
told lists source destination = record { source = source_end (folding_of lists) source; destination = destination_end (folding_of lists) source destination }

-- ---- what is said

says_told : (out : SinkTrace) (from to : EndWord) (texts : List (List ℕ)) (lists : EstateLists) (source destination : AskedEnd) → lists_of texts ≡ Ok lists → IsLawful lists
    → asked_end lists from ≡ Ok source → asked_end lists to ≡ Ok destination → are_one (folding_of lists) source destination ≡ false
    → TookWhole out (explain_text (end_text from) (end_text to) (explanations lists (told lists source destination))) → ExplainsAll out from to texts
says_told out from to texts lists source destination read lawful from_is to_is apart took =
    let asks = asked-is lists from source from_is in
    let asks' = asked-is lists to destination to_is in
    let source_in = asked-there lists from source from_is in
    let destination_in = asked-there lists to destination to_is in record {
      lists = lists;
      source = source_end (folding_of lists) source;
      destination = destination_end (folding_of lists) source destination;
      all = explanations lists (told lists source destination);
      read = read;
      named = (near-named lists from source asks, far-named lists source to destination asks' apart, (ends-there lists source destination source_in destination_in apart).apart);
      explained = explained lists from to source destination lawful asks asks' source_in destination_in apart;
      printed = took;
    }

says_ends : (out : SinkTrace) (from to : EndWord) (texts : List (List ℕ)) (lists : EstateLists) (source destination : Result AskedEnd Fault) (ends : Result ExplainedEnds Fault) → lists_of texts ≡ Ok lists →
    IsLawful lists
    → asked_end lists from ≡ source → asked_end lists to ≡ destination → known_ends (folding_of lists) (end_text from) source destination ≡ ends
    → fault_in (explain_ends from to lists ends) ≡ None → TookWhole out (text_in (explain_ends from to lists ends)) → ExplainsAll out from to texts
says_ends out from to texts lists source destination (Err fault) read lawful from_is to_is are no_fault took = absurd (no_fault_at fault no_fault)
says_ends out from to texts lists (Err fault) destination (Ok ends) read lawful from_is to_is are no_fault took = absurd (no_ends fault ends are)
says_ends out from to texts lists (Ok source) (Err fault) (Ok ends) read lawful from_is to_is are no_fault took = absurd (no_ends fault ends are)
says_ends out from to texts lists (Ok source) (Ok destination) (Ok ends) read lawful from_is to_is are no_fault took =
    let between = ends-between lists (end_text from) source destination ends are in
    says_told out from to texts lists source destination read lawful from_is to_is between.0 (rw between.1 at took)

-- a whole report of accepted inputs says what decides
pub promised : (out : SinkTrace) (from to : EndWord) (texts : List (List ℕ)) (lists : EstateLists) → lists_of texts ≡ Ok lists → IsLawful lists
    → fault_in (explain_reply from to lists) ≡ None → TookWhole out (text_in (explain_reply from to lists)) → ExplainsAll out from to texts
unfolding explain_reply ends_named
promised out from to texts lists read lawful no_fault took =
    says_ends out from to texts lists (asked_end lists from) (asked_end lists to) (ends_named lists from to) read lawful refl refl refl no_fault took

-- ---- refusals

-- the fault of two ends that are known is that they are one pod
refused_between : (from to : EndWord) (lists : EstateLists) (fault : Fault) (source destination : AskedEnd) → IsLawful lists → asked_end lists from ≡ Ok source → asked_end lists to ≡ Ok destination
    → fault_in (explain_ends from to lists (ends_between (folding_of lists) (end_text from) source destination)) ≡ Some fault → RefusesExplain from to lists fault
unfolding ends_between
refused_between from to lists fault source destination lawful from_is to_is is = by (are_one (folding_of lists) source destination) refl is
  where
    asks : AsksFor lists from source
    asks = asked-is lists from source from_is

    asks' : AsksFor lists to destination
    asks' = asked-is lists to destination to_is

    found : ExplainedEnds
    found = told lists source destination

    by : (one : Bool) → are_one (folding_of lists) source destination ≡ one
        → fault_in (explain_ends from to lists (if one then Err (SameEnd (end_text from)) else Ok found)) ≡ Some fault → RefusesExplain from to lists fault
    by true one is =
        one_pod (source_end (folding_of lists) source, near-named lists from source asks)
        (source_end (folding_of lists) destination, near-named lists to destination asks')
        (λ s d names names'. all-one lists from to source destination s d lawful asks asks' one names names') (cc)
    by false apart is = absurd (cc)

refused_ends : (from to : EndWord) (lists : EstateLists) (fault : Fault) (source destination : Result AskedEnd Fault) → IsLawful lists → asked_end lists from ≡ source
    → asked_end lists to ≡ destination
    → fault_in (explain_ends from to lists (known_ends (folding_of lists) (end_text from) source destination)) ≡ Some fault → RefusesExplain from to lists fault
refused_ends from to lists fault (Err other) destination lawful from_is to_is is = let none = none-asked lists from other from_is in let same : other ≡ fault = cc in no_source none.0 (cc)
refused_ends from to lists fault (Ok source) (Err other) lawful from_is to_is is =
    let none = none-asked lists to other to_is in
    let some : NamesSome lists from = (source_end (folding_of lists) source, near-named lists from source (asked-is lists from source from_is)) in
    let same : other ≡ fault = cc in
    no_destination some none.0 (cc)
refused_ends from to lists fault (Ok source) (Ok destination) lawful from_is to_is is = refused_between from to lists fault source destination lawful from_is to_is is

-- what is refused of what was read names no two ends
pub refused : (from to : EndWord) (lists : EstateLists) (fault : Fault) → IsLawful lists → fault_in (explain_reply from to lists) ≡ Some fault → RefusesExplain from to lists fault
unfolding explain_reply ends_named
refused from to lists fault lawful is = refused_ends from to lists fault (asked_end lists from) (asked_end lists to) lawful refl refl is
