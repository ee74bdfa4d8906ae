-- What a report of `evaluate` says of the bytes of its inputs, and why there is none.
use Rattle.std.specs.Prelude.{◌≡◌, ℕ, List, true, false, Some, Ok, slice_get}
use Rattle.np_command_evaluate.specs.Types.{End, EndWord, EstateLists, Fault, Pod, PortSpot, SameEnd, UnknownEnd}
use Rattle.np_args.specs.declared.end_word.EndWord.TheVariants as word
use Rattle.np_command.specs.Prelude.{SinkTrace, TookWhole, end_text, lists_of}
use Rattle.np_command_evaluate.specs.Report.{pod_word, verdict_lines}
use Rattle.np_explain.specs.Prelude.{are_one_pod}
use Rattle.np_rules.specs.declared.packet.End.TheVariants as end

-- a word names a listed end: the listed pod of its name, or its address
abbrev pub NamesListed : EstateLists → EndWord → End → Type 0
NamesListed lists (word.Named name) (end.Pod place) = (pod : Pod) × (slice_get lists.pods place ≡ Some pod) × (pod.listed ≡ true) × (pod_word pod ≡ name)
NamesListed lists (word.Named name) (end.At address) = ⊥
NamesListed lists (word.At address) one = one ≡ end.At address

-- The bytes of the inputs are those of an estate, the words name two listed ends, which are no one pod, and the sink took
-- the verdicts of the packet between them.
pub record EvaluatesAll (out : SinkTrace) (from to : EndWord) (spot : PortSpot) (texts : List (List ℕ)) : Type 0 where
  pub lists : EstateLists
  pub source : End
  pub destination : End
  pub read : lists_of texts ≡ Ok lists
  pub from_is : NamesListed lists from source
  pub to_is : NamesListed lists to destination
  pub apart : are_one_pod source destination ≡ false
  pub printed : TookWhole out (verdict_lines lists (end_text from) (end_text to) spot source destination)

-- a word names no listed end
abbrev pub NamesNoneListed : EstateLists → EndWord → Type 0
NamesNoneListed lists named = (one : End) → NamesListed lists named one → ⊥

-- Why two words are refused: one names no listed end, the first that does not; or both name one pod.
pub data RefusesEvaluate (from to : EndWord) (lists : EstateLists) (fault : Fault) : Type 0 where
  no_source : NamesNoneListed lists from → fault ≡ UnknownEnd (end_text from) → RefusesEvaluate from to lists fault
  no_destination : (source : End) → NamesListed lists from source → NamesNoneListed lists to → fault ≡ UnknownEnd (end_text to) → RefusesEvaluate from to lists fault
  one_pod : (place : ℕ) → NamesListed lists from (end.Pod place) → NamesListed lists to (end.Pod place) → fault ≡ SameEnd (end_text from) → RefusesEvaluate from to lists fault
