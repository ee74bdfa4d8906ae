-- The types and variants of structs and enums that this crate's definitions and proofs speak of, its own and those of the crates below.
pub use Rattle.np_addr.specs.declared.address.Family.{Family}
pub use Rattle.np_addr.specs.declared.address.Family.TheVariants.{Four, Six}
pub use Rattle.np_labels.specs.declared.requirement.Requirement.{Requirement}
pub use Rattle.np_labels.specs.declared.selector.Selector.{Selector}
pub use Rattle.np_model.specs.declared.admin_policy.AdminPeer.{AdminPeer}
pub use Rattle.np_model.specs.declared.admin_policy.AdminPolicy.{AdminPolicy}
pub use Rattle.np_model.specs.declared.network_policy.NetPolicy.{NetPolicy}
pub use Rattle.np_model.specs.declared.pod.Pod.{Pod}
pub use Rattle.np_model.specs.declared.service.ServiceItem.{ServiceItem}
