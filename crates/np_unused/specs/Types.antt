-- The types and variants of structs and enums that this crate's definitions and proofs speak of, its own and those of the crates below.
pub use Rattle.np_conns.specs.declared.port_spot.PortSpot.{PortSpot}
pub use Rattle.np_addr.specs.declared.address.Address.TheVariants.{Four, Six}
pub use Rattle.np_addr.specs.declared.address.Family.{Family}
pub use Rattle.np_model.specs.declared.admin_policy.Action.{Action}
pub use Rattle.np_model.specs.declared.admin_policy.Action.TheVariants.{Allow, Deny, Pass}
pub use Rattle.np_tiers.specs.declared.layer.AdminPart.{AdminPart}
pub use Rattle.np_tiers.specs.declared.layer.Layer.{Layer}
pub use Rattle.np_tiers.specs.declared.mark.Mark.{Mark}
pub use Rattle.np_model.specs.declared.admin_policy.AdminPolicy.{AdminPolicy}
pub use Rattle.np_model.specs.declared.admin_policy.AdminRule.{AdminRule}
pub use Rattle.np_model.specs.declared.admin_policy.BasePolicy.{BasePolicy}
pub use Rattle.np_model.specs.declared.direction.Direction.{Direction}
pub use Rattle.np_model.specs.declared.direction.Direction.TheVariants.{Egress, Ingress}
pub use Rattle.np_model.specs.declared.lists.EstateLists.{EstateLists}
pub use Rattle.np_model.specs.declared.network_policy.NetPolicy.{NetPolicy}
pub use Rattle.np_model.specs.declared.network_policy.NetRule.{NetRule}
pub use Rattle.np_rules.specs.declared.decider.Decider.{Decider}
pub use Rattle.np_rules.specs.declared.decider.Decider.TheVariants.{Free, Isolated, NoSide}
pub use Rattle.np_rules.specs.declared.decider.RuleName.{RuleName}
pub use Rattle.np_rules.specs.declared.packet.End.{End}
pub use Rattle.np_rules.specs.declared.packet.End.TheVariants.{At, Pod}
pub use Rattle.np_rules.specs.declared.rule_ids.LayerRules.{LayerRules}
pub use Rattle.np_rules.specs.declared.rule_ids.RuleId.{RuleId}
pub use Rattle.np_unused.specs.declared.flags.Flags.{Flags}
pub use Rattle.np_unused.specs.declared.kind_pods.KindPod.{KindPod}
pub use Rattle.np_unused.specs.declared.kind_pods.Kinds.{Kinds}
pub use Rattle.np_unused.specs.declared.rule_ref.RuleRef.{RuleRef}
pub use Rattle.np_unused.specs.declared.rule_ref.Tier.{Tier}
pub use Rattle.np_unused.specs.declared.rule_ref.Tier.TheVariants.{Admin, Base, Net}
pub use Rattle.np_unused.specs.declared.rule_spots.RuleSpots.{RuleSpots}
pub use Rattle.np_unused.specs.declared.same_kinds.Left.{Left}
pub use Rattle.np_unused.specs.declared.same_kinds.Left.TheVariants.{AllEnds, OneKind}
pub use Rattle.np_unused.specs.declared.search.Search.{Search}
pub use Rattle.np_unused.specs.declared.used_rules.UsedRules.{UsedRules}
