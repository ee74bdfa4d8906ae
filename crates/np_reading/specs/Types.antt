-- The types and variants of structs and enums that this crate's definitions and proofs speak of, its own and those of the crates below.
pub use Rattle.np_labels.specs.declared.pair.Pair.{Pair}
pub use Rattle.np_model.specs.declared.admin_policy.AdminPolicy.{AdminPolicy}
pub use Rattle.np_model.specs.declared.admin_policy.BasePolicy.{BasePolicy}
pub use Rattle.np_model.specs.declared.ingress.IngressItem.{IngressItem}
pub use Rattle.np_model.specs.declared.lists.EstateLists.{EstateLists}
pub use Rattle.np_model.specs.declared.network_policy.NetPolicy.{NetPolicy}
pub use Rattle.np_model.specs.declared.notes.Notes.{Notes}
pub use Rattle.np_model.specs.declared.owner.Owner.{Owner}
pub use Rattle.np_model.specs.declared.placed_ingress.PlacedIngress.{PlacedIngress}
pub use Rattle.np_model.specs.declared.pod.Pod.{Pod}
pub use Rattle.np_model.specs.declared.service.ServiceItem.{ServiceItem}
pub use Rattle.np_objects.specs.declared.controller.ControllerItem.{ControllerItem}
pub use Rattle.np_objects.specs.declared.controller.Template.{Template}
pub use Rattle.np_objects.specs.declared.object.Object.{Object}
pub use Rattle.np_objects.specs.declared.owner_ref.OwnerRef.{OwnerRef}
pub use Rattle.np_objects.specs.declared.pod_item.PodItem.{PodItem}
pub use Rattle.np_items.specs.declared.fault.ItemsFault.{ItemsFault}
pub use Rattle.np_items.specs.declared.item.Item.{Item}
pub use Rattle.np_owners.specs.declared.object_name.ObjectName.{ObjectName}
pub use Rattle.np_reading.specs.declared.context.PodContext.{PodContext}
pub use Rattle.np_reading.specs.declared.left_out.LeftOut.{LeftOut}
pub use Rattle.np_reading.specs.declared.left_out.LeftOut.TheVariants.{Finished, Host, Skipped}
pub use Rattle.np_reading.specs.declared.priorities.Rank.{Rank}
pub use Rattle.np_reading.specs.declared.refusal.Refusal.{Refusal}
pub use Rattle.np_reading.specs.declared.refusal.Refusal.TheVariants.{Bad, Duplicate, EqualPriority, NestedList, NoMemory, NotAList, NotJson, OwnerCycle, TooManyItems}
