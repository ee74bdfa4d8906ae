-- What a report of `evaluate` says, from what was written of it, and why there is none. For crates above.
use Rattle.std.proofs.Common.{◌≡◌, ℕ, List, [], ◌∷◌, Bool, true, false, Option, None, Some, Result, Ok, Err, get_or, if◌then◌else◌, refl, sym, ap, subst, ◌∙◌}
use Rattle.std.proofs.lemmas.Bool.{and_from, and_parts, eqb-true, false≢true, true≢false}
use Rattle.std.proofs.lemmas.List.Folds.{list_any_at}
use Rattle.std.proofs.lemmas.List.Quantifiers.{position-Some}
use Rattle.std.proofs.lemmas.Option.{get_or_from_slice_get, slice_get-get_or, slice_get_within}
use Rattle.std.proofs.lemmas.Slice.Eq.{bytes_eq-Decides}
use Rattle.std.specs.List.{position}
use Rattle.std.specs.Option.{option_map}
use Rattle.std.specs.Str.{bytes_eq}
use Rattle.np_command_evaluate.specs.Types.{End, EndWord, EstateLists, Fault, Pod, PortSpot, SameEnd, UnknownEnd}
use Rattle.np_args.specs.declared.end_word.EndWord.TheVariants as word
use Rattle.np_classes.proofs.Lists.{no_position}
use Rattle.np_command.specs.Prelude.{SinkTrace, TookWhole, end_text, fault_in, lists_of, or_unknown, text_in}
use Rattle.np_command.proofs.EndLemmas.{no_fault_at}
use Rattle.np_command_evaluate.specs.Promise.{EvaluatesAll, NamesListed, NamesNoneListed, RefusesEvaluate, no_destination, no_source, one_pod}
use Rattle.np_command_evaluate.specs.Report.{between, end_named, evaluate_reply, is_listed_as, known_end, lines_or, pod_word, verdict_lines}
use Rattle.np_explain.specs.Prelude.{are_one_pod}
use Rattle.np_model.specs.Prelude.{IsLawful}
use Rattle.np_rules.specs.declared.packet.End.TheVariants as end

-- ---- listed ends

-- the pod that is found is a listed one of the name
pod-found : (lists : EstateLists) (name : List ℕ) (place : ℕ) → position (is_listed_as name) lists.pods ≡ Some place → NamesListed lists (word.Named name) (end.Pod place)
pod-found lists name place is = by lists.pods refl
  where
    by : (pods : List Pod) → lists.pods ≡ pods → NamesListed lists (word.Named name) (end.Pod place)
    by [] pods_are = let nothing = rw pods_are at is in absurd (cc)
    by (first ∷ others) pods_are =
        let found = position-Some (is_listed_as name) lists.pods place first is in
        let pod : Pod = get_or lists.pods place first in
        let parts = and_parts pod.listed (bytes_eq name (pod_word pod)) found.1 in (
          pod,
          slice_get-get_or lists.pods place first found.0,
          parts.0,
          sym ((bytes_eq-Decides name (pod_word pod)).0 parts.1),
        )

-- a word names the end that is found for it
end-found : (lists : EstateLists) (named : EndWord) (one : End) → end_named lists named ≡ Some one → NamesListed lists named one
end-found lists (word.At address) one is = let same : end.At address ≡ one = cc in sym same
end-found lists (word.Named name) one is = by (position (is_listed_as name) lists.pods) refl is
  where
    by : (found : Option ℕ) → position (is_listed_as name) lists.pods ≡ found → option_map end.Pod found ≡ Some one → NamesListed lists (word.Named name) one
    by None found is = absurd (cc)
    by (Some place) found is = let same : end.Pod place ≡ one = cc in subst (NamesListed lists (word.Named name)) same (pod-found lists name place found)

-- and none where none is
none-found : (lists : EstateLists) (named : EndWord) → end_named lists named ≡ None → NamesNoneListed lists named
none-found lists (word.At address) is = absurd (cc)
none-found lists (word.Named name) is = by (position (is_listed_as name) lists.pods) refl is
  where
    none : position (is_listed_as name) lists.pods ≡ None → NamesNoneListed lists (word.Named name)
    none found (end.At address) names = names
    none found (end.Pod place) (pod, at, listed, named) =
        let here : get_or lists.pods place pod ≡ pod = get_or_from_slice_get lists.pods place pod pod at in
        let same : bytes_eq name (pod_word pod) ≡ true = (bytes_eq-Decides name (pod_word pod)).1 (sym named) in
        let passes : is_listed_as name (get_or lists.pods place pod) ≡ true = ap (is_listed_as name) here ∙ and_from pod.listed (bytes_eq name (pod_word pod)) listed same in
        true≢false (sym (list_any_at (is_listed_as name) lists.pods place pod (slice_get_within lists.pods place pod at) passes) ∙ no_position (is_listed_as name) lists.pods found)

    by : (found : Option ℕ) → position (is_listed_as name) lists.pods ≡ found → option_map end.Pod found ≡ None → NamesNoneListed lists (word.Named name)
    by None found is = none found
    by (Some place) found is = absurd (cc)

-- what is known of a word tells what it names
known-named : (lists : EstateLists) (named : EndWord) (one : End) → known_end lists named ≡ Ok one → NamesListed lists named one
unfolding known_end
known-named lists named one is = by (end_named lists named) refl is
  where
    by : (found : Option End) → end_named lists named ≡ found → or_unknown (end_text named) (λ (x : End). x) found ≡ Ok one → NamesListed lists named one
    by None found is = absurd (cc)
    by (Some other) found is = let same : other ≡ one = cc in end-found lists named one (found ∙ ap (λ (x : End). Some x) same)

none-known : (lists : EstateLists) (named : EndWord) (fault : Fault) → known_end lists named ≡ Err fault → NamesNoneListed lists named × (fault ≡ UnknownEnd (end_text named))
unfolding known_end
none-known lists named fault is = by (end_named lists named) refl is
  where
    by : (found : Option End) → end_named lists named ≡ found → or_unknown (end_text named) (λ (x : End). x) found ≡ Err fault → NamesNoneListed lists named × (fault ≡ UnknownEnd (end_text named))
    by None found is = (none-found lists named found, cc)
    by (Some other) found is = absurd (cc)

-- ends that are one pod are that of a place
one_place : (source destination : End) → are_one_pod source destination ≡ true → (place : ℕ) × (source ≡ end.Pod place) × (destination ≡ end.Pod place)
one_place (end.Pod p) (end.Pod q) one = (p, refl, ap (λ (n : ℕ). end.Pod n) (sym (eqb-true p q one)))
one_place (end.Pod p) (end.At address) one = absurd (false≢true one)
one_place (end.At address) destination one = absurd (false≢true one)

-- ---- what is said

says_ends : (out : SinkTrace) (from to : EndWord) (spot : PortSpot) (texts : List (List ℕ)) (lists : EstateLists) (source destination : Result End Fault) → lists_of texts ≡ Ok lists → IsLawful lists
    → known_end lists from ≡ source → known_end lists to ≡ destination → fault_in (between lists from to spot source destination) ≡ None
    → TookWhole out (text_in (between lists from to spot source destination)) → EvaluatesAll out from to spot texts
says_ends out from to spot texts lists (Err fault) destination read lawful from_is to_is no_fault took = absurd (no_fault_at fault no_fault)
says_ends out from to spot texts lists (Ok source) (Err fault) read lawful from_is to_is no_fault took = absurd (no_fault_at fault no_fault)
says_ends out from to spot texts lists (Ok source) (Ok destination) read lawful from_is to_is no_fault took = by (are_one_pod source destination) refl no_fault took
  where
    lines : List ℕ
    lines = verdict_lines lists (end_text from) (end_text to) spot source destination

    by : (one : Bool) → are_one_pod source destination ≡ one → fault_in (lines_or (if one then Err (SameEnd (end_text from)) else Ok tt) lines) ≡ None
        → TookWhole out (text_in (lines_or (if one then Err (SameEnd (end_text from)) else Ok tt) lines)) → EvaluatesAll out from to spot texts
    by true one no_fault took = absurd (no_fault_at _ no_fault)
    by false apart no_fault took = record {
      lists = lists;
      source = source;
      destination = destination;
      read = read;
      from_is = known-named lists from source from_is;
      to_is = known-named lists to destination to_is;
      apart = apart;
      printed = took;
    }

-- a whole report of accepted inputs says the verdicts
pub promised : (out : SinkTrace) (from to : EndWord) (spot : PortSpot) (texts : List (List ℕ)) (lists : EstateLists) → lists_of texts ≡ Ok lists → IsLawful lists
    → fault_in (evaluate_reply from to spot lists) ≡ None → TookWhole out (text_in (evaluate_reply from to spot lists)) → EvaluatesAll out from to spot texts
unfolding evaluate_reply
promised out from to spot texts lists read lawful no_fault took = says_ends out from to spot texts lists (known_end lists from) (known_end lists to) read lawful refl refl no_fault took

-- ---- refusals

refused_ends : (from to : EndWord) (spot : PortSpot) (lists : EstateLists) (fault : Fault) (source destination : Result End Fault) → known_end lists from ≡ source → known_end lists to ≡ destination
    → fault_in (between lists from to spot source destination) ≡ Some fault → RefusesEvaluate from to lists fault
refused_ends from to spot lists fault (Err other) destination from_is to_is is = let none = none-known lists from other from_is in let same : other ≡ fault = cc in no_source none.0 (cc)
refused_ends from to spot lists fault (Ok source) (Err other) from_is to_is is =
    let none = none-known lists to other to_is in
    let same : other ≡ fault = cc in
    no_destination source (known-named lists from source from_is) none.0 (cc)
refused_ends from to spot lists fault (Ok source) (Ok destination) from_is to_is is = by (are_one_pod source destination) refl is
  where
    lines : List ℕ
    lines = verdict_lines lists (end_text from) (end_text to) spot source destination

    by : (one : Bool) → are_one_pod source destination ≡ one → fault_in (lines_or (if one then Err (SameEnd (end_text from)) else Ok tt) lines) ≡ Some fault → RefusesEvaluate from to lists fault
    by true one is =
        let place = one_place source destination one in
        one_pod place.0 (subst (NamesListed lists from) place.1 (known-named lists from source from_is)) (subst (NamesListed lists to) place.2 (known-named lists to destination to_is)) (cc)
    by false apart is = absurd (cc)

-- what is refused of what was read names no two listed ends
pub refused : (from to : EndWord) (spot : PortSpot) (lists : EstateLists) (fault : Fault) → IsLawful lists → fault_in (evaluate_reply from to spot lists) ≡ Some fault
    → RefusesEvaluate from to lists fault
unfolding evaluate_reply
refused from to spot lists fault lawful is = refused_ends from to spot lists fault (known_end lists from) (known_end lists to) refl refl is
