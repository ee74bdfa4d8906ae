-- What a report of `explain` says of the bytes of its inputs, and why there is none.
use Rattle.std.specs.Prelude.{◌≡◌, ℕ, List, [], ◌∷◌, Some, None, Contains, true, false, Ok}
use Rattle.np_command_explain.specs.Types.{End, EndWord, EstateLists, Explanation, Family, Fault, Four, SameEnd, Shown, Six, UnknownEnd}
use Rattle.np_args.specs.declared.end_word.EndWord.TheVariants as word
use Rattle.np_command.specs.Prelude.{SinkTrace, TookWhole, end_text, lists_of}
use Rattle.np_command_explain.specs.Report.{explain_text, shown}
use Rattle.np_explain.specs.Prelude.{IsRightFor, are_one_pod, packet_families}
use Rattle.np_fold.specs.Prelude.{Workload, workloads_of}
use Rattle.np_rules.specs.declared.packet.End.TheVariants as end

-- ---- the ends

-- a word names an end: each pod of the workload of its name, or its address
abbrev pub NamesEnd : EstateLists → EndWord → End → Type 0
NamesEnd lists (word.Named name) (end.Pod place) = (one : Workload) × Contains (workloads_of lists) one × (one.name ≡ name) × Contains one.members place
NamesEnd lists (word.Named name) (end.At address) = ⊥
NamesEnd lists (word.At address) one = one ≡ end.At address

-- two words name two ends, which are no one pod
abbrev pub AreNamed : EstateLists → EndWord → EndWord → End → End → Type 0
AreNamed lists from to source destination = NamesEnd lists from source × NamesEnd lists to destination × (are_one_pod source destination ≡ false)

-- ---- what is shown

-- between all ends that the words name, an explanation names what decides the packets of a family, and which are allowed
abbrev pub IsRightIn : EstateLists → EndWord → EndWord → Family → Explanation → Type 0
IsRightIn lists from to family made =
    (source destination : End) → AreNamed lists from to source destination → Contains (packet_families lists source destination) family → IsRightFor lists source destination family made

-- between all ends that the words name there are packets of both families
abbrev pub HaveBothFamilies : EstateLists → EndWord → EndWord → Type 0
HaveBothFamilies lists from to = (source destination : End) (family : Family) → AreNamed lists from to source destination → Contains (packet_families lists source destination) family

-- One explanation without a mark is shown, which is right in each family of packets; or, where there are both, that of IPv4
-- and that of IPv6, which have other parts.
pub data Explains (lists : EstateLists) (from to : EndWord) (all : List Shown) : Type 0 where
  one_for_all : (made : Explanation) → all ≡ shown None made ∷ [] → ((family : Family) → IsRightIn lists from to family made) → Explains lists from to all
  one_for_each : (four six : Explanation) → all ≡ shown (Some Four) four ∷ shown (Some Six) six ∷ [] → IsRightIn lists from to Four four → IsRightIn lists from to Six six
      → HaveBothFamilies lists from to → ((four.egress ≡ six.egress) × (four.ingress ≡ six.ingress) → ⊥) → Explains lists from to all

-- The bytes of the inputs are those of an estate, the words name two ends, and the sink took explanations that name what
-- decides between all that they name.
pub record ExplainsAll (out : SinkTrace) (from to : EndWord) (texts : List (List ℕ)) : Type 0 where
  pub lists : EstateLists
  pub source : End
  pub destination : End
  pub all : List Shown
  pub read : lists_of texts ≡ Ok lists
  pub named : AreNamed lists from to source destination
  pub explained : Explains lists from to all
  pub printed : TookWhole out (explain_text (end_text from) (end_text to) all)

-- ---- refusals

-- a word names some end, or none
abbrev pub NamesSome : EstateLists → EndWord → Type 0
NamesSome lists named = (one : End) × NamesEnd lists named one

abbrev pub NamesNone : EstateLists → EndWord → Type 0
NamesNone lists named = (one : End) → NamesEnd lists named one → ⊥

-- Why two words are refused: one names no end, the first that does not; or all that they name is one pod.
pub data RefusesExplain (from to : EndWord) (lists : EstateLists) (fault : Fault) : Type 0 where
  no_source : NamesNone lists from → fault ≡ UnknownEnd (end_text from) → RefusesExplain from to lists fault
  no_destination : NamesSome lists from → NamesNone lists to → fault ≡ UnknownEnd (end_text to) → RefusesExplain from to lists fault
  one_pod : NamesSome lists from → NamesSome lists to → ((source destination : End) → NamesEnd lists from source → NamesEnd lists to destination → are_one_pod source destination ≡ true)
      → fault ≡ SameEnd (end_text from) → RefusesExplain from to lists fault
