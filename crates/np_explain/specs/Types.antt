-- The types and variants of structs and enums that this crate's definitions and proofs speak of, its own and those of the crates below.
pub use Rattle.np_base.specs.declared.range.Range.{Range}
pub use Rattle.np_conns.specs.declared.port_spot.PortSpot.{PortSpot}
pub use Rattle.np_conns.specs.declared.proto.Proto.{Proto}
pub use Rattle.np_conns.specs.declared.proto.Proto.TheVariants.{Sctp, Tcp, Udp}
pub use Rattle.np_addr.specs.declared.address.Family.{Family}
pub use Rattle.np_tiers.specs.declared.layer.AdminPart.{AdminPart}
pub use Rattle.np_tiers.specs.declared.layer.Layer.{Layer}
pub use Rattle.np_tiers.specs.declared.mark.Mark.{Mark}
pub use Rattle.np_tiers.specs.declared.mark.Marked.{Marked}
pub use Rattle.np_model.specs.declared.admin_policy.Action.{Action}
pub use Rattle.np_model.specs.declared.admin_policy.Action.TheVariants.{Allow, Deny, Pass}
pub use Rattle.np_model.specs.declared.admin_policy.AdminPolicy.{AdminPolicy}
pub use Rattle.np_model.specs.declared.admin_policy.BasePolicy.{BasePolicy}
pub use Rattle.np_model.specs.declared.direction.Direction.{Direction}
pub use Rattle.np_model.specs.declared.direction.Direction.TheVariants.{Egress, Ingress}
pub use Rattle.np_model.specs.declared.lists.EstateLists.{EstateLists}
pub use Rattle.np_model.specs.declared.network_policy.NetPolicy.{NetPolicy}
pub use Rattle.np_rules.specs.declared.decider.Decider.{Decider}
pub use Rattle.np_rules.specs.declared.decider.Decider.TheVariants.{Admin, Base, Free, Isolated, Net, NoSide}
pub use Rattle.np_rules.specs.declared.decider.RuleName.{RuleName}
pub use Rattle.np_rules.specs.declared.packet.End.{End}
pub use Rattle.np_rules.specs.declared.rule_ids.LayerRules.{LayerRules}
pub use Rattle.np_explain.specs.declared.explanation.Explanation.{Explanation}
pub use Rattle.np_explain.specs.declared.part.Part.{Part}
