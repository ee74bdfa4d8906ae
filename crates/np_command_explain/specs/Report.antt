-- `explain`: what decides between two ends.
use Rattle.std.specs.Prelude.{ℕ, List, [], ◌∷◌, ◌++◌, Bool, false, codes, flat_map, Option, Some, None, Result, Ok, Err, if◌then◌else◌}
use Rattle.np_command_explain.specs.Types.{AskedEnd, At, Direction, Egress, End, ExplainedEnds, EndWord, EstateLists, Explanation, Family, Fault, Four, Ingress, Part, SameEnd, Shown, Six, Work}
use Rattle.np_command.specs.Prelude.{end_text, or_unknown}
use Rattle.np_conns.specs.Prelude.{conns_text, has_spot}
pub use Rattle.np_explain.specs.PartLine.{part_line}
use Rattle.np_explain.specs.Prelude.{explanation_of, family_asked, same_sides}
use Rattle.np_fold.specs.Prelude.{Folding, folding_of, number_named}
use Rattle.np_model.specs.Prelude.{direction_text}
use Rattle.np_report.specs.Prelude.{family_suffix}
use Rattle.np_rules.specs.declared.packet.End.TheVariants as end
use Rattle.np_kinds.specs.Prelude.{destination_pod, is_alone, source_pod}
use Rattle.np_args.specs.declared.end_word.EndWord.TheVariants as word

-- ---- ends

-- the end that a word names: an address, or the workload of that name
unfoldable pub asked_end : EstateLists → EndWord → Result AskedEnd Fault
asked_end lists (word.At address) = Ok (At address)
asked_end lists (word.Named name) = or_unknown name Work (number_named (folding_of lists) name)

-- The pods that stand for workloads: the first of each, and the second for the destination where both are one.
abbrev pub source_end : Folding → AskedEnd → End
source_end folding (At address) = end.At address
source_end folding (Work number) = end.Pod (source_pod folding number)

abbrev pub destination_end : Folding → AskedEnd → AskedEnd → End
destination_end folding (At address) destination = source_end folding destination
destination_end folding (Work source) (At address) = end.At address
destination_end folding (Work source) (Work destination) = end.Pod (destination_pod folding source destination)

-- whether both are one workload of one pod
abbrev pub are_one : Folding → AskedEnd → AskedEnd → Bool
are_one folding (At address) destination = false
are_one folding (Work source) (At address) = false
are_one folding (Work source) (Work destination) = is_alone folding source destination

-- what stands for both, or the fault that nothing does, with the word of the source
unfoldable pub ends_between : Folding → List ℕ → AskedEnd → AskedEnd → Result ExplainedEnds Fault
ends_between folding from source destination =
    if are_one folding source destination then Err (SameEnd from)
    else Ok (record { source = source_end folding source; destination = destination_end folding source destination })

-- what stands for both ends where both are known, else a fault: that of the source first
abbrev pub known_ends : Folding → List ℕ → Result AskedEnd Fault → Result AskedEnd Fault → Result ExplainedEnds Fault
known_ends folding from (Err fault) destination = Err fault
known_ends folding from (Ok source) (Err fault) = Err fault
known_ends folding from (Ok source) (Ok destination) = ends_between folding from source destination

unfoldable pub ends_named : EstateLists → EndWord → EndWord → Result ExplainedEnds Fault
ends_named lists from to = known_ends (folding_of lists) (end_text from) (asked_end lists from) (asked_end lists to)

-- ---- explanations

abbrev pub shown : Option Family → Explanation → Shown
shown mark made = record { mark = mark; made = made }

-- one where both sides have the same parts in both families, and else one for each, with the family's mark
abbrev pub shown_of_both : Explanation → Explanation → List Shown
shown_of_both four six = if same_sides four six then shown None four ∷ [] else shown (Some Four) four ∷ shown (Some Six) six ∷ []

-- one where one family is asked about
abbrev pub in_families : Option Family → (Family → Explanation) → List Shown
in_families (Some one) make = shown None (make one) ∷ []
in_families None make = shown_of_both (make Four) (make Six)

-- what is shown of two ends
unfoldable pub explanations : EstateLists → ExplainedEnds → List Shown
explanations lists ends = in_families (family_asked lists ends.source ends.destination) (explanation_of lists ends.source ends.destination)

-- ---- text

-- `egress of end`, where a mark may follow, and the parts of that side
unfoldable pub side_text : Direction → List ℕ → Option Family → List Part → List ℕ
side_text direction name mark parts =
    direction_text direction ++ codes " of " ++ name ++ family_suffix mark ++ codes "\n" ++ flat_map (part_line direction) parts

-- both sides, and the row of what passes: `from => to : connections`
unfoldable pub shown_text : List ℕ → List ℕ → Shown → List ℕ
shown_text from to one = side_text Egress from one.mark one.made.egress ++ side_text Ingress to one.mark one.made.ingress
    ++ from ++ codes " => " ++ to ++ family_suffix one.mark ++ codes " : " ++ conns_text (has_spot one.made.conns) ++ codes "\n"

unfoldable pub explain_text : List ℕ → List ℕ → List Shown → List ℕ
explain_text from to all = flat_map (shown_text from to) all

-- ---- all of it

abbrev pub explain_ends : EndWord → EndWord → EstateLists → Result ExplainedEnds Fault → Result (List ℕ) Fault
explain_ends from to lists (Ok ends) = Ok (explain_text (end_text from) (end_text to) (explanations lists ends))
explain_ends from to lists (Err fault) = Err fault

-- The explanation of two ends, or the fault of theirs that stands first.
unfoldable pub explain_reply : EndWord → EndWord → EstateLists → Result (List ℕ) Fault
explain_reply from to lists = explain_ends from to lists (ends_named lists from to)
