-- Ends that are there, and lines of the text of what decides between them.
use Rattle.std.specs.Prelude.{◌≡◌, ◌<◌, ℕ, List, ◌++◌, length, codes, false, Option}
use Rattle.np_command_explain.specs.Types.{AskedEnd, At, Direction, Egress, ExplainedEnds, EstateLists, Explanation, Family, Ingress, Part, Shown, Work}
use Rattle.np_conns.specs.Prelude.{conns_text, has_spot}
use Rattle.np_explain.specs.Prelude.{are_one_pod}
use Rattle.np_fold.specs.Prelude.{Folding, members_of}
use Rattle.np_model.specs.Prelude.{direction_text}
use Rattle.np_report.specs.Prelude.{family_suffix}
use Rattle.np_rules.specs.Prelude.{IsEndOf}
use Rattle.np_kinds.specs.Prelude.{IsWorkload}

-- the number is a workload's
abbrev pub IsAsked : EstateLists → AskedEnd → Type 0
IsAsked lists (At address) = Unit {0}
IsAsked lists (Work number) = IsWorkload lists number

-- so it is, and the workload has a pod
abbrev pub HasPods : Folding → AskedEnd → Type 0
HasPods folding (At address) = Unit {0}
HasPods folding (Work number) = (number < length folding.workloads) × (0 < length (members_of folding number))

-- both ends are there, and they are no one pod
pub record AreEnds (lists : EstateLists) (ends : ExplainedEnds) : Type 0 where
  pub source : IsEndOf lists ends.source
  pub destination : IsEndOf lists ends.destination
  pub apart : are_one_pod ends.source ends.destination ≡ false

-- ---- lines of the text

-- the parts of a side
abbrev pub parts_at : Direction → Explanation → List Part
parts_at Egress made = made.egress
parts_at Ingress made = made.ingress

-- `egress of end`, where a mark may follow
abbrev pub head_line : Direction → List ℕ → Option Family → List ℕ
head_line direction name mark = direction_text direction ++ codes " of " ++ name ++ family_suffix mark ++ codes "\n"

-- `from => to : connections`, where a mark may follow the ends
abbrev pub row_line : List ℕ → List ℕ → Shown → List ℕ
row_line from to one = from ++ codes " => " ++ to ++ family_suffix one.mark ++ codes " : " ++ conns_text (has_spot one.made.conns) ++ codes "\n"
