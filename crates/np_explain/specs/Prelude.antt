-- The definitions and types of this crate that its proofs and the crates above speak of, one import line a file.
pub use Rattle.np_explain.specs.DeciderText.{pass_text, rule_text}
unfoldable pub use Rattle.np_explain.specs.DeciderText.{decider_text}
pub use Rattle.np_explain.specs.Explanations.{IsRightFor, passes_between, same_conns, same_part, same_sides, some_allows}
unfoldable pub use Rattle.np_explain.specs.Explanations.{explanation_of, same_parts}
pub use Rattle.np_explain.specs.Marks.{IsMarkOf, IsPassOf, KeepsNames, KeepsSide, SaysActions, admin_rules, base_rules, mark_decider, named_part, net_rules, pass_name, policy_name_at}
pub use Rattle.np_explain.specs.Order.{first_number, first_or}
pub use Rattle.np_explain.specs.PartLine.{part_line}
pub use Rattle.np_explain.specs.Parts.{AreRightParts, StartsBefore, spot_number}
pub use Rattle.np_explain.specs.RightParts.{part_of, same_rule}
unfoldable pub use Rattle.np_explain.specs.RightParts.{all_spots, each_decider_once, parts_of, same_decider, spots_from}
pub use Rattle.np_explain.specs.Sides.{IsFamilyAt, IsFamilyOf, are_one_pod, decider_at, decider_between, decider_near, end_at, family_asked, is_address, only_family, packet_between, packet_families, placed_at, with_end}
pub use Rattle.np_explain.specs.Types.{Action, Admin, AdminPart, AdminPolicy, Allow, Base, BasePolicy, Decider, Deny, Direction, Egress, End, EstateLists, Explanation, Family, Free, Ingress, Isolated, Layer, LayerRules, Mark, Marked, Net, NetPolicy, NoSide, Part, Pass, PortSpot, Proto, Range, RuleName, Sctp, Tcp, Udp}
pub use Rattle.np_explain.specs.WellNamed.{has_rule, is_rule_name, is_well_named}
