-- The definitions and types of this crate that its proofs and the crates above speak of, one import line a file.
pub use Rattle.np_reading.specs.EachOnce.{HoldsEachOnce, IsOfItsItem}
pub use Rattle.np_reading.specs.Ends.{context, context_at, context_of, contexts_from, contexts_of, gives_end, is_on_host, listed_pod, made_pod, pod_at_item, pod_of_item, pod_of_object, pods_from, pods_of}
pub use Rattle.np_reading.specs.LeftOut.{count_left_out, is_for, is_left_out, left_out, list_networks, unaddressed}
pub use Rattle.np_reading.specs.Listed.{admin_policies_of, admin_policy_in, base_policy_in, baseline_of, compare_ranks, first_equal, first_item, have_priorities_apart, ingress_in, ingresses_from, ingresses_of, net_name, net_policies_of, net_policy_in, placed, rank_of, rank_too, ranks_of, service_in, services_of, with_admin, with_net, with_rank}
pub use Rattle.np_reading.specs.Namespaces.{labels_in, listed_labels, name_label, namespace_labels, namespace_name}
pub use Rattle.np_reading.specs.Reading.{estate_of_items, have_names_apart, have_no_cycle, notes_of}
unfoldable pub use Rattle.np_reading.specs.Reading.{estate_of}
pub use Rattle.np_reading.specs.Readings.{Gives, Reading, refuse_found}
pub use Rattle.np_reading.specs.Refusals.{chains_refusal, items_refusal, places_refusal, refusal_text}
pub use Rattle.np_reading.specs.TopOwners.{named_or_itself}
pub use Rattle.np_reading.specs.Types.{AdminPolicy, Bad, BasePolicy, ControllerItem, Duplicate, EqualPriority, EstateLists, Finished, Host, IngressItem, Item, ItemsFault, LeftOut, NestedList, NetPolicy, NoMemory, NotAList, NotJson, Notes, Object, ObjectName, Owner, OwnerCycle, OwnerRef, Pair, PlacedIngress, Pod, PodContext, PodItem, Rank, Refusal, ServiceItem, Skipped, Template, TooManyItems}
pub use Rattle.np_reading.specs.steps.Gathering.{Seen, in_order, nothing, or_first, seen, with_item, with_items, with_object, with_pairs, with_pod, with_policy}
pub use Rattle.np_reading.specs.steps.Known.{KnowsLabels}
