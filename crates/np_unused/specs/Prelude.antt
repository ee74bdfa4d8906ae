-- The definitions and types of this crate that its proofs and the crates above speak of, one import line a file.
pub use Rattle.np_unused.specs.Order.{StandsBefore, direction_number, tier_number}
pub use Rattle.np_unused.specs.Rules.{IsRuleOf, policy_count, policy_name_at, rule_count_at, rule_name, rules_from, rules_of_policy, rules_of_tier, tier_text}
unfoldable pub use Rattle.np_unused.specs.Rules.{all_rules, tier_rule_text}
pub use Rattle.np_unused.specs.Types.{Action, Admin, AdminPart, AdminPolicy, AdminRule, AllEnds, Allow, At, Base, BasePolicy, Decider, Deny, Direction, Egress, End, EstateLists, Family, Flags, Four, Free, Ingress, Isolated, KindPod, Kinds, Layer, LayerRules, Left, Mark, Net, NetPolicy, NetRule, NoSide, OneKind, Pass, Pod, PortSpot, RuleId, RuleName, RuleRef, RuleSpots, Search, Six, Tier, UsedRules}
pub use Rattle.np_unused.specs.Used.{IsListedEnd, IsListedPacket, StandsIn, is_used_between, is_used_in, rule_in, stands_in}
unfoldable pub use Rattle.np_unused.specs.Used.{four_ends, is_used, listed_ends, pod_ends, six_ends, unused_of}
pub use Rattle.np_unused.specs.Without.{admin_without, base_without, goes, net_without, same_ref, without_places}
unfoldable pub use Rattle.np_unused.specs.Without.{without}
pub use Rattle.np_unused.specs.steps.Firsts.{Notes, first_at, first_rule, hands_down, is_pass, names}
pub use Rattle.np_unused.specs.steps.Kinds.{AreKindPods, AreKindPodsOf, IsKindPodOf, first_of_kind, is_asked, pod_kind}
pub use Rattle.np_unused.specs.steps.Known.{base_place, flag_at, flag_in, flag_of, flags_of, ids_of, is_id, is_met, net_place, place_in}
unfoldable pub use Rattle.np_unused.specs.steps.Known.{all_known, is_known, marks}
pub use Rattle.np_unused.specs.steps.SameKinds.{IsLeft, IsSameBefore}
pub use Rattle.np_unused.specs.steps.Search.{AllAreUsed, AreKinds, AreRulesOf, Grows, IsSearch, IsSearchOf, IsWithin, KnowsAll, KnowsBefore, KnowsFamilies, KnowsFar, KnowsKind, KnowsLeft, KnowsLeftOf, KnowsSide, KnowsToward, Searched, is_known_by, known_in, may_tell, ref_of, side_decider, speaks_in}
unfoldable pub use Rattle.np_unused.specs.steps.Search.{AreUsed, Finds, IsSound, Knows, KnowsPods, KnowsSides, PodsAreUsed}
pub use Rattle.np_unused.specs.steps.Unknown.{net_rule_speaks, rule_speaks, some_unknown_speaks}
