-- What a report of `unused` says of the bytes of its inputs.
use Rattle.std.specs.Prelude.{◌≡◌, ◌↔◌, ℕ, List, AllPairs, Contains, Ok, flat_map}
use Rattle.np_addr.specs.declared.address.Family.{Family}
use Rattle.np_command.specs.Prelude.{SinkTrace, TookWhole, lists_of}
use Rattle.np_command_unused.specs.Report.{rule_line}
use Rattle.np_conns.specs.declared.port_spot.PortSpot.{PortSpot}
use Rattle.np_model.specs.declared.lists.EstateLists.{EstateLists}
use Rattle.np_explain.specs.Prelude.{packet_between}
use Rattle.np_unused.specs.Prelude.{IsListedPacket, IsRuleOf, StandsBefore, StandsIn, without}
use Rattle.np_unused.specs.declared.rule_ref.RuleRef.{RuleRef}
use Rattle.np_rules.specs.Prelude.{allows}
use Rattle.np_rules.specs.declared.packet.End.{End}

-- the rule stands in what decides no packet between two pods, or between a pod and an address
abbrev pub DecidesNothing : EstateLists → RuleRef → Type 0
DecidesNothing lists rule = (source destination : End) (family : Family) (spot : PortSpot)
    → IsListedPacket lists source destination family spot → StandsIn lists rule source destination family spot → ⊥

-- without some rules, every packet between two pods, or between a pod and an address, is allowed or denied as with them
abbrev pub ChangeNothing : EstateLists → List RuleRef → Type 0
ChangeNothing lists rules = (source destination : End) (family : Family) (spot : PortSpot) → IsListedPacket lists source destination family spot
    → allows (without lists rules) (packet_between lists source destination family spot) ≡ allows lists (packet_between lists source destination family spot)

-- The bytes of the inputs are those of an estate, and the sink took a line for each of some rules. These are exactly
-- the rules of the estate that decide nothing, each once and in order, and without all of them nothing changes.
pub record ListsUnused (out : SinkTrace) (texts : List (List ℕ)) : Type 0 where
  pub lists : EstateLists
  pub read : lists_of texts ≡ Ok lists
  pub rules : List RuleRef
  pub printed : TookWhole out (flat_map (rule_line lists) rules)
  pub each : (rule : RuleRef) → Contains rules rule ↔ (IsRuleOf lists rule × DecidesNothing lists rule)
  pub order : AllPairs StandsBefore rules
  pub together : ChangeNothing lists rules
