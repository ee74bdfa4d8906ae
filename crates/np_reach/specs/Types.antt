-- The types and variants of structs and enums that this crate's definitions and proofs speak of, its own and those of the crates below.
pub use Rattle.np_addr.specs.declared.address.Family.{Family}
pub use Rattle.np_addr.specs.declared.address.Family.TheVariants.{Four, Six}
pub use Rattle.np_model.specs.declared.admin_policy.AdminPolicy.{AdminPolicy}
pub use Rattle.np_model.specs.declared.admin_policy.AdminRule.{AdminRule}
pub use Rattle.np_model.specs.declared.direction.Direction.{Direction}
pub use Rattle.np_model.specs.declared.lists.EstateLists.{EstateLists}
pub use Rattle.np_model.specs.declared.network_policy.NetPolicy.{NetPolicy}
pub use Rattle.np_model.specs.declared.network_policy.NetRule.{NetRule}
pub use Rattle.np_model.specs.declared.pod.Pod.{Pod}
pub use Rattle.np_reach.specs.declared.spoken.Marks.{Marks}
