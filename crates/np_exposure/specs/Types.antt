-- The types and variants of structs and enums that this crate's definitions and proofs speak of, its own and those of the crates below.
pub use Rattle.np_conns.specs.declared.port_spot.PortSpot.{PortSpot}
pub use Rattle.np_addr.specs.declared.address.Family.TheVariants.{Four}
pub use Rattle.np_labels.specs.declared.op.Op.{Op}
pub use Rattle.np_labels.specs.declared.op.Op.TheVariants.{Absent, NoneOf, OneOf, Present}
pub use Rattle.np_labels.specs.declared.pair.Pair.{Pair}
pub use Rattle.np_labels.specs.declared.requirement.Requirement.{Requirement}
pub use Rattle.np_labels.specs.declared.selector.Selector.{Selector}
pub use Rattle.np_model.specs.declared.admin_policy.AdminPeer.{AdminPeer}
pub use Rattle.np_model.specs.declared.admin_policy.AdminPolicy.{AdminPolicy}
pub use Rattle.np_model.specs.declared.admin_policy.AdminPort.{AdminPort}
pub use Rattle.np_model.specs.declared.admin_policy.AdminRule.{AdminRule}
pub use Rattle.np_model.specs.declared.admin_policy.BasePolicy.{BasePolicy}
pub use Rattle.np_model.specs.declared.direction.Direction.{Direction}
pub use Rattle.np_model.specs.declared.direction.Direction.TheVariants.{Egress, Ingress}
pub use Rattle.np_model.specs.declared.network_policy.NetPeer.{NetPeer}
pub use Rattle.np_model.specs.declared.network_policy.NetPolicy.{NetPolicy}
pub use Rattle.np_model.specs.declared.network_policy.NetPort.{NetPort}
pub use Rattle.np_model.specs.declared.network_policy.NetRule.{NetRule}
pub use Rattle.np_rules.specs.declared.stranger.Stranger.{Stranger}
pub use Rattle.np_rules.specs.declared.stranger_rules.RuleConns.{RuleConns}
pub use Rattle.np_exposure.specs.declared.exposure_row.ExposureRow.{ExposureRow}
pub use Rattle.np_exposure.specs.declared.mentioned_key.MentionedKey.{MentionedKey}
pub use Rattle.np_exposure.specs.declared.pending.Pending.{Pending}
pub use Rattle.np_exposure.specs.declared.side.Side.{Side}
pub use Rattle.np_exposure.specs.declared.side.Side.TheVariants.{Namespace, Pod}
pub use Rattle.np_exposure.specs.declared.sided_requirement.SidedRequirement.{SidedRequirement}
