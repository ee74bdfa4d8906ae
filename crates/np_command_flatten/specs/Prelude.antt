-- The definitions and types of this crate that its proofs and the crates above speak of, one import line a file.
pub use Rattle.np_command_flatten.specs.Estates.{AreApart, estate_with, net_item, net_items}
pub use Rattle.np_command_flatten.specs.Printable.{are_printable_rules, is_printable, is_printable_block, is_printable_peer, is_printable_port, is_printable_rule}
pub use Rattle.np_command_flatten.specs.Promise.{AreBefore, AreFamiliesAlike, AreTreatedAlike, AreTwoPods, FlattensAll, IsFirstAlike, IsFirstSplit, IsListed, LookAlike, RefusesFlatten, SameAddresses, SamePods, policies_alone, with_policies, workload_name}
pub use Rattle.np_command_flatten.specs.Report.{AreWorkloads, policies_unless}
unfoldable pub use Rattle.np_command_flatten.specs.Report.{flatten_reply, flatten_text, item_text}
pub use Rattle.np_command_flatten.specs.Types.{Absent, Address, AddressRow, Alike, Block, Cidr, Direction, Egress, EstateLists, Family, Fault, FlatFault, Four, Ingress, Item, Named, NetPeer, NetPolicy, NetPort, NetRule, NoMemory, NoneOf, OneOf, Op, Pods, PortSpot, Present, Proto, Range, Requirement, Sctp, Selector, Six, Span, Split, Tcp, Udp}
