-- `evaluate`: the verdict of one packet.
use Rattle.std.specs.Prelude.{ℕ, List, ◌++◌, ◌&&◌, Bool, codes, Option, Some, None, Result, Ok, Err, ⊤, if◌then◌else◌}
use mathlib.Core.Bool.{beq}
use Rattle.std.specs.List.{position}
use Rattle.std.specs.Option.{option_map}
use Rattle.std.specs.Str.{bytes_eq}
use Rattle.np_addr.specs.declared.address.Family.{Family}
use Rattle.np_addr.specs.declared.address.Family.TheVariants.{Four, Six}
use Rattle.np_command.specs.Prelude.{end_text, or_unknown}
use Rattle.np_command_evaluate.specs.Types.{End, EndWord, EstateLists, Fault, Pod, PortSpot, SameEnd}
use Rattle.np_report.specs.Prelude.{family_suffix}
use Rattle.np_rules.specs.Prelude.{said_text}
use Rattle.np_rules.specs.declared.packet.End.TheVariants as end
use Rattle.np_args.specs.declared.end_word.EndWord.TheVariants as word
use Rattle.np_explain.specs.Prelude.{are_one_pod, family_asked, passes_between}

-- ---- ends

-- a pod as a word names it: `namespace/name`
abbrev pub pod_word : Pod → List ℕ
pod_word pod = pod.namespace ++ (codes "/" ++ pod.name)

-- whether a pod is the listed one that a word names; one that a template makes is none
abbrev pub is_listed_as : List ℕ → Pod → Bool
is_listed_as name pod = pod.listed && bytes_eq name (pod_word pod)

-- the end that a word names: an address, or the listed pod of that name
abbrev pub end_named : EstateLists → EndWord → Option End
end_named lists (word.At address) = Some (end.At address)
end_named lists (word.Named name) = option_map end.Pod (position (is_listed_as name) lists.pods)

-- the end that a word names, or the fault that there is none
unfoldable pub known_end : EstateLists → EndWord → Result End Fault
known_end lists word = or_unknown (end_text word) (λ one. one) (end_named lists word)

-- the ends of a packet are no one pod
abbrev pub must_be_apart : List ℕ → End → End → Result ⊤ Fault
must_be_apart from source destination = if are_one_pod source destination then Err (SameEnd from) else Ok tt

-- ---- lines

-- `from => to : PROTOCOL port : Allow`, where a mark may follow `to`
unfoldable pub verdict_line : List ℕ → List ℕ → PortSpot → Option Family → Bool → List ℕ
verdict_line from to spot mark verdict =
    from ++ codes " => " ++ to ++ family_suffix mark ++ codes " : " ++ said_text spot verdict ++ codes "\n"

-- One line where one family is asked about, or the verdicts of both are the same, and else one for each, with the family's mark.
abbrev pub lines_in : (Option Family → Bool → List ℕ) → Option Family → (Family → Bool) → List ℕ
lines_in line (Some one) verdict = line None (verdict one)
lines_in line None verdict = if beq (verdict Four) (verdict Six) then line None (verdict Four)
    else line (Some Four) (verdict Four) ++ line (Some Six) (verdict Six)

unfoldable pub verdict_lines : EstateLists → List ℕ → List ℕ → PortSpot → End → End → List ℕ
verdict_lines lists from to spot source destination =
    lines_in (verdict_line from to spot) (family_asked lists source destination) (λ family. passes_between lists source destination family spot)

-- ---- all of it

-- the lines of the packet between two ends that are no one pod
abbrev pub lines_or : Result ⊤ Fault → List ℕ → Result (List ℕ) Fault
lines_or (Ok done) lines = Ok lines
lines_or (Err fault) lines = Err fault

-- both ends are known; the fault of the first one stands first
abbrev pub between : EstateLists → EndWord → EndWord → PortSpot → Result End Fault → Result End Fault → Result (List ℕ) Fault
between lists from to spot (Err fault) destination = Err fault
between lists from to spot (Ok source) (Err fault) = Err fault
between lists from to spot (Ok source) (Ok destination) =
    lines_or (must_be_apart (end_text from) source destination) (verdict_lines lists (end_text from) (end_text to) spot source destination)

-- The verdict of the packet, or the fault of its ends that stands first.
unfoldable pub evaluate_reply : EndWord → EndWord → PortSpot → EstateLists → Result (List ℕ) Fault
evaluate_reply from to spot lists = between lists from to spot (known_end lists from) (known_end lists to)
