-- The types and variants of structs and enums that this crate's definitions and proofs speak of, its own and those of the crates below.
pub use Rattle.np_base.specs.declared.beside.Beside.{Beside}
pub use Rattle.np_base.specs.declared.beside.Which.{Which}
pub use Rattle.np_base.specs.declared.beside.Which.TheVariants.{First, Second}
pub use Rattle.np_conns.specs.declared.port_spot.PortSpot.{PortSpot}
pub use Rattle.np_conns.specs.declared.proto.Proto.{Proto}
pub use Rattle.np_pieces.specs.declared.piece.At.{At}
pub use Rattle.np_pieces.specs.declared.piece.Piece.{Piece}
pub use Rattle.np_addr.specs.declared.address.Address.{Address}
pub use Rattle.np_addr.specs.declared.address.Address.TheVariants.{Six}
pub use Rattle.np_addr.specs.declared.address.Family.{Family}
pub use Rattle.np_addr.specs.declared.address.Family.TheVariants.{Four}
pub use Rattle.np_addr.specs.declared.cidr.Cidr.{Cidr}
pub use Rattle.np_tiers.specs.declared.layer.AdminPart.{AdminPart}
pub use Rattle.np_tiers.specs.declared.layer.BasePart.{BasePart}
pub use Rattle.np_tiers.specs.declared.layer.Layer.{Layer}
pub use Rattle.np_model.specs.declared.admin_policy.Action.{Action}
pub use Rattle.np_model.specs.declared.admin_policy.Action.TheVariants.{Allow, Deny, Pass}
pub use Rattle.np_model.specs.declared.admin_policy.AdminPeer.{AdminPeer}
pub use Rattle.np_model.specs.declared.admin_policy.AdminPolicy.{AdminPolicy}
pub use Rattle.np_model.specs.declared.admin_policy.AdminRule.{AdminRule}
pub use Rattle.np_model.specs.declared.admin_policy.BasePolicy.{BasePolicy}
pub use Rattle.np_model.specs.declared.direction.Direction.{Direction}
pub use Rattle.np_model.specs.declared.direction.Direction.TheVariants.{Egress, Ingress}
pub use Rattle.np_model.specs.declared.lists.EstateLists.{EstateLists}
pub use Rattle.np_model.specs.declared.named_port.NamedPort.{NamedPort}
pub use Rattle.np_model.specs.declared.network_policy.NetPeer.{NetPeer}
pub use Rattle.np_model.specs.declared.network_policy.NetPolicy.{NetPolicy}
pub use Rattle.np_model.specs.declared.network_policy.NetPort.{NetPort}
pub use Rattle.np_model.specs.declared.network_policy.NetRule.{NetRule}
pub use Rattle.np_rules.specs.declared.decider.Decider.{Decider}
pub use Rattle.np_rules.specs.declared.decider.RuleName.{RuleName}
pub use Rattle.np_rules.specs.declared.one_end.OneEnd.{OneEnd}
pub use Rattle.np_rules.specs.declared.policy_rules.PolicyRules.{PolicyRules}
pub use Rattle.np_rules.specs.declared.rule_ids.RuleId.{RuleId}
pub use Rattle.np_rules.specs.declared.stranger.Stranger.{Stranger}
pub use Rattle.np_rules.specs.declared.stranger_rules.RuleConns.{RuleConns}
