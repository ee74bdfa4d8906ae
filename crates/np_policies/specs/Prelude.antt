-- The definitions and types of this crate that its proofs and the crates above speak of, one import line a file.
pub use Rattle.np_policies.specs.AdminPolicies.{action_named, admin_peer, egress_member, pods_member, priority_number}
unfoldable pub use Rattle.np_policies.specs.AdminPolicies.{action, admin_peers, admin_policy, admin_rule, admin_rules, admin_spec, all_pods, base_name, base_policy, base_spec, egress_peer, ingress_peer, namespace_selector, networks, object_name, priority, some_pods, subject}
pub use Rattle.np_policies.specs.Blocks.{refuse_except}
unfoldable pub use Rattle.np_policies.specs.Blocks.{cidr, ip_block}
pub use Rattle.np_policies.specs.Items.{all_items, items_at}
pub use Rattle.np_policies.specs.NetworkPolicies.{direction_named, empty_spec, has_by_default, has_direction, is_misshapen, is_same_direction, net_peer_by, peers_member, rules_if}
unfoldable pub use Rattle.np_policies.specs.NetworkPolicies.{net_peer, net_policy, net_policy_by, net_rule, net_rules, net_spec, policy_type}
pub use Rattle.np_policies.specs.Policies.{is_network_policy, is_of_type, policy_kind}
unfoldable pub use Rattle.np_policies.specs.Policies.{policy_by, policy_of}
pub use Rattle.np_policies.specs.Ports.{admin_port_member, may_end, net_port_by, port_number_of, port_value_by}
unfoldable pub use Rattle.np_policies.specs.Ports.{admin_port, container_port_name, end_port, named_port, net_port, one_port, port_range, port_value, protocol}
pub use Rattle.np_policies.specs.Selectors.{everything, fitting, has_other, have_other, is_other, op_named}
unfoldable pub use Rattle.np_policies.specs.Selectors.{expression, key, selector}
pub use Rattle.np_policies.specs.Types.{Absent, Action, Admin, AdminKind, AdminPeer, AdminPolicy, AdminPort, AdminRule, AdminSpec, Allow, BadAction, BadCidr, BadExcept, BadField, BadName, BadPort, BadPriority, BadSelector, Base, BasePolicy, BaselineName, Block, Cidr, Deny, Direction, DomainPeer, Egress, EmptyPeers, FaultKind, Field, Foreign, ForeignPolicy, Ingress, IpBlock, Item, Name, NamespacedName, Net, NetPeer, NetPolicy, NetPort, NetRule, NetSpec, Networks, NoPolicy, NodePeer, NoneOf, Number, OneOf, Op, Pass, PeerShape, Pods, Policy, PolicyKind, PortValue, Present, Proto, Requirement, Selector, Subject, Tcp, TypeMeta}
pub use Rattle.np_policies.specs.WellFormed.{is_well_policy}
