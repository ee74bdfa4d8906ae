-- The definitions and types of this crate that its proofs and the crates above speak of, one import line a file.
pub use Rattle.np_owners.specs.Chains.{IsChains, chain, first_cycle, is_at_or_over, is_marked, is_over_some, last_of, owners, owns_itself, places_of_owners, top, up}
pub use Rattle.np_owners.specs.MadePods.{has_pods, is_pod, makers, makes_pod, wants_pods}
pub use Rattle.np_owners.specs.Names.{HoldsPlaces, TellsRepeat, compare_names, first_repeat, is_item_named, name_of_item, name_of_object, noted_place, object_named, place_of, policy_name, repeat_after, repeated, same_name}
pub use Rattle.np_owners.specs.Owners.{TellsCycle, by_reference, controller_place, first_in_cycle, full_name, full_name_of, last_owner, owner_named, owner_of_item, owner_place, place_in_namespace, top_owner, top_owners, ups}
pub use Rattle.np_owners.specs.Types.{Item, ObjectName, Owner, OwnerRef}
