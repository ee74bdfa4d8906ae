-- The definitions and types of this crate that its proofs and the crates above speak of, one import line a file.
pub use Rattle.np_flatten.specs.Faults.{are_same_address_row, are_same_span, differ_at, differ_towards, family_of_list, fault_by, first_family, is_defined, is_split, is_unlike, own_sets, set_of, two_differ}
unfoldable pub use Rattle.np_flatten.specs.Faults.{differ, flat_fault, set_in}
pub use Rattle.np_flatten.specs.Flat.{blocks_of_span, egress_rules, everyone, flat_name, flat_policies, flattened, group_namespace, group_peer, group_rows, group_selector, ingress_rules, ranges_of_span, receiver_in, rule_if, rule_to_everyone, rules_from_group, rules_from_groups, rules_of_addresses, rules_of_set, set_from}
unfoldable pub use Rattle.np_flatten.specs.Flat.{flat_policy}
pub use Rattle.np_flatten.specs.Groups.{ends_have_same_value, first_of_group, group_count, group_firsts, group_of, look_alike, relevant}
unfoldable pub use Rattle.np_flatten.specs.Groups.{are_together}
pub use Rattle.np_flatten.specs.Pairs.{pairs_below}
unfoldable pub use Rattle.np_flatten.specs.Pairs.{first_pair}
pub use Rattle.np_flatten.specs.Ports.{ports_of, span_of, spans_of_all}
pub use Rattle.np_flatten.specs.Refused.{AreFamiliesAlike, AreTreatedAlike, IsLexicallyBefore, PassTheSame}
pub use Rattle.np_flatten.specs.Selecting.{namespace_named, requirement_at, requirement_of_key, selector_of_keys}
pub use Rattle.np_flatten.specs.Types.{Absent, AddressRow, AddressSpan, Alike, Block, Direction, Egress, EstateLists, Family, FlatFault, Four, Ingress, NetPeer, NetPolicy, NetPort, NetRule, NoMemory, Pair, Pod, Pods, PortSpot, Proto, Range, Requirement, Row, Sctp, Selector, Six, Split, Tcp, Traits, Udp}
pub use Rattle.np_flatten.specs.steps.Agree.{Agree}
pub use Rattle.np_flatten.specs.steps.Filled.{IsFilled}
pub use Rattle.np_flatten.specs.steps.Least.{IsLeast, IsLike, IsNotBefore, IsUnlike, comes_before, stands_before, with_number}
pub use Rattle.np_flatten.specs.steps.Next.{next_in}
pub use Rattle.np_flatten.specs.steps.OwnSets.{AreTwo, own_set}
pub use Rattle.np_flatten.specs.steps.Seen.{nobody, seen, seen_at}
pub use Rattle.np_flatten.specs.steps.SplitRows.{first_split_of, split_by, split_of}
pub use Rattle.np_flatten.specs.steps.Unlike.{IsLeastUnlike, first_by, first_with}
