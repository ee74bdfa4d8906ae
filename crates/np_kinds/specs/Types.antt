-- The types and variants of structs and enums that this crate's definitions and proofs speak of, its own and those of the crates below.
pub use Rattle.np_conns.specs.Conns.{Conns}
pub use Rattle.np_conns.specs.declared.port_spot.PortSpot.{PortSpot}
pub use Rattle.np_addr.specs.declared.address.Address.{Address}
pub use Rattle.np_addr.specs.declared.address.Family.{Family}
pub use Rattle.np_model.specs.declared.admin_policy.AdminPeer.{AdminPeer}
pub use Rattle.np_model.specs.declared.admin_policy.AdminPort.{AdminPort}
pub use Rattle.np_model.specs.declared.direction.Direction.{Direction}
pub use Rattle.np_model.specs.declared.direction.Direction.TheVariants.{Egress, Ingress}
pub use Rattle.np_model.specs.declared.lists.EstateLists.{EstateLists}
pub use Rattle.np_model.specs.declared.network_policy.NetPeer.{NetPeer}
pub use Rattle.np_model.specs.declared.network_policy.NetPort.{NetPort}
pub use Rattle.np_model.specs.declared.network_policy.NetRule.{NetRule}
pub use Rattle.np_model.specs.declared.pod.Pod.{Pod}
pub use Rattle.np_kinds.specs.declared.kind_reach.KindReach.{KindReach}
pub use Rattle.np_kinds.specs.declared.shared_sets.PodQuestion.{PodQuestion}
