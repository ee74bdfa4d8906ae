-- The types and variants of structs and enums that this crate's definitions and proofs speak of, its own and those of the crates below.
pub use Rattle.np_model.specs.declared.owner.Owner.{Owner}
pub use Rattle.np_objects.specs.declared.owner_ref.OwnerRef.{OwnerRef}
pub use Rattle.np_items.specs.declared.item.Item.{Item}
pub use Rattle.np_owners.specs.declared.object_name.ObjectName.{ObjectName}
