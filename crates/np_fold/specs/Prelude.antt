-- The definitions and types of this crate that its proofs and the crates above speak of, one import line a file.
pub use Rattle.np_fold.specs.Alike.{Alike, IsSameKind, are_both_in, are_same_owner, are_same_port, have_same_value, is_in}
unfoldable pub use Rattle.np_fold.specs.Alike.{are_alike, are_same_kind}
pub use Rattle.np_fold.specs.Blocks.{cidrs_of_estate, cidrs_of_peer}
pub use Rattle.np_fold.specs.InForce.{IsInForce, IsNamed, IsOfAdminPeer, IsOfNetDirection, IsOfNetPeer, IsOfNetPolicy, IsOfNetRule, IsOfSubject}
pub use Rattle.np_fold.specs.Keys.{admin_subjects, keys_of_admin_peer, keys_of_estate, keys_of_net_direction, keys_of_net_peer, keys_of_net_policy, keys_of_net_rule, keys_of_optional, keys_of_selector, keys_of_service, keys_of_subject, with_keys}
pub use Rattle.np_fold.specs.Order.{compare_labels, compare_owners, compare_ports, compare_traits, traits_total}
pub use Rattle.np_fold.specs.Traits.{blocks_of, label_of, traits_of, with_owner}
pub use Rattle.np_fold.specs.Types.{Address, AdminPeer, AdminPolicy, AdminRule, BasePolicy, Cidr, EstateLists, Label, Named, NamedPort, NetPeer, NetPolicy, NetRule, Owner, Pair, Pod, Selector, ServiceItem, Subject, Traits}
pub use Rattle.np_fold.specs.Workloads.{Folding, Workload, first_of, first_pod, first_pods, has_pod, kinds_alike, members_of, name_of_workload, named_first_pods, number_named, owner_name, owner_name_at, owner_names, pods_alike, pods_like, workload, workload_count, workload_of_entry}
unfoldable pub use Rattle.np_fold.specs.Workloads.{folding_of, workload_number, workloads_of}
pub use Rattle.np_fold.specs.steps.Folded.{HaveSame, block_at, classes_of_pods, first_kinds, kind_at, kind_traits, kinds_of_workloads, nobody, number_among, start_of, workload_of, workload_of_pair}
