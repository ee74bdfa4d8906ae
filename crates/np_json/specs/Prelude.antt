-- The definitions and types of this crate that its proofs and the crates above speak of, one import line a file.
pub use Rattle.np_json.specs.Faults.{flaw_text, item_fault_text, kind_text, read_fault_text, shape_fault_text}
pub use Rattle.np_json.specs.Members.{IfGiven, Scalar, as_field, as_itself, as_pairs, as_scalar, as_whole, field_by, field_map, flag_of, list_of, member_of, object_of, pairs_of, pairs_of_members, plain, scalar_of, text_of, unless_null, whole_of}
pub use Rattle.np_json.specs.Meta.{or_default}
unfoldable pub use Rattle.np_json.specs.Meta.{namespace, namespaced_name, type_meta}
pub use Rattle.np_json.specs.Paths.{first_text, further_text, path_text}
pub use Rattle.np_json.specs.Scalars.{flag, of_type, port_number, text, whole}
unfoldable pub use Rattle.np_json.specs.Scalars.{labels, name, port, protocol_name, word}
pub use Rattle.np_json.specs.Shapes.{Gives, GivesItem, IsFlawAt, IsUnder, Read, each_item, fault_of, given, has_member, has_one_of, list_by, optional_or, or_refuse, passing, read_member, refuse, ◌>>=◌, ◌>>◌}
unfoldable pub use Rattle.np_json.specs.Shapes.{listed, must_be_object, optional, refuse_if, refuse_member_if, required, under}
pub use Rattle.np_json.specs.Types.{Bad, BadAction, BadAddress, BadCidr, BadExcept, BadField, BadName, BadPort, BadPriority, BadProtocol, BadSelector, BaselineName, DomainPeer, EmptyPeers, FaultKind, Field, Flaw, ForeignPolicy, Item, NamespacedName, NoMemory, NodePeer, PeerShape, ReadFault, ShapeFault, Step}
