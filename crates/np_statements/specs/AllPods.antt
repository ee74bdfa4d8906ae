-- Statements of any pod and any pod, asked at once.
use Rattle.std.specs.Prelude.{◌≡◌, List, Bool, true, false, ◌&&◌, ◌||◌, All, None}
use Rattle.np_check.specs.Prelude.{counterexample_of}
use Rattle.np_statements.specs.Types.{Addresses, Allow, Block, CheckedKinds, Deny, EndForm, EstateLists, Namespace, Pods, PortSpot, Question, StatementLine, StatementText, Wanted, Work}
use Rattle.np_conns.specs.Prelude.{Conns, has_spot}
use Rattle.np_statements.specs.Ends.{all_works, works_alone}

-- ---- which statements

abbrev pub is_same : Wanted → Wanted → Bool
is_same Allow Allow = true
is_same Allow Deny = false
is_same Deny Allow = false
is_same Deny Deny = true

abbrev pub is_any_pod : EndForm → Bool
is_any_pod Pods = true
is_any_pod Addresses = false
is_any_pod (Namespace name) = false
is_any_pod (Work name) = false
is_any_pod (Block cidr) = false

-- whether a statement is one of any pod and any pod, with a verdict
abbrev pub asks_pods : Wanted → StatementText → Bool
asks_pods wanted statement = (is_same statement.wanted wanted && is_any_pod statement.source) && is_any_pod statement.destination

-- whether the line of such a statement speaks of a spot
abbrev pub asks_at : Wanted → PortSpot → StatementLine → Bool
asks_at wanted spot line = asks_pods wanted line.statement && has_spot line.statement.conns spot

-- what it asks
abbrev pub question_of_pods : EstateLists → Wanted → Conns → Question
question_of_pods lists wanted conns = record { wanted = wanted; source = works_alone (all_works lists); destination = works_alone (all_works lists); conns = conns }

-- ---- which hold

-- where the line is of such a statement, the statement holds
abbrev pub HoldsOfPods : EstateLists → Wanted → StatementLine → Type 0
HoldsOfPods lists wanted line = asks_pods wanted line.statement ≡ true → counterexample_of lists (question_of_pods lists line.statement.wanted line.statement.conns) ≡ None

-- so do those of the verdicts that are known to
pub record AreSettled (lists : EstateLists) (settled : CheckedKinds) (lines : List StatementLine) : Type 0 where
  pub allow : settled.allow ≡ true → All (HoldsOfPods lists Allow) lines
  pub deny : settled.deny ≡ true → All (HoldsOfPods lists Deny) lines

-- whether a statement is one of these
abbrev pub is_settled : CheckedKinds → StatementText → Bool
is_settled settled statement = (settled.allow && asks_pods Allow statement) || (settled.deny && asks_pods Deny statement)
