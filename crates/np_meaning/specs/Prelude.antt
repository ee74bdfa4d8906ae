-- The definitions and types of this crate that its proofs and the crates above speak of, one import line a file.
pub use Rattle.np_meaning.specs.AdminMeaning.{ArePodsBy, ArePodsOf, IsAdminPolicyOf, IsAdminPort, IsAdminSpec, IsBasePolicyOf, IsEgressPeer, IsEgressRule, IsIngressPeer, IsIngressRule, IsPortBy, IsSpanOf, action_text}
pub use Rattle.np_meaning.specs.ControllerMeaning.{IsControllerOf, IsTemplateIn, IsTemplateOf, has_replicas, is_nought, template_in}
pub use Rattle.np_meaning.specs.EachPod.{HoldsEachPod, IsListedPod, IsMadePod, SaysNamespace, namespace, namespace_named, pod, takes_part, templated, templates_from}
pub use Rattle.np_meaning.specs.EstateRows.{IsEndOf, IsRangeOf, IsRowOf, IsSpan}
pub use Rattle.np_meaning.specs.KindMeaning.{IsOfItsKind, version_of}
pub use Rattle.np_meaning.specs.MemberMeaning.{IsOfKind, entries_at, named_or_default, number_at, object_at, protocol_of, spec_of, text_at}
pub use Rattle.np_meaning.specs.Numbering.{AreNumbered}
pub use Rattle.np_meaning.specs.ObjectMeaning.{AreLabelsOf, IsBackend, IsBackendPort, IsContainerPort, IsIngressOf, IsNamed, IsNamespaceOf, IsPodOf, IsServiceOf, IsServicePort, IsServiceSelector, are_no_entries, backends_in, has_name, have_entries, is_address, is_final, is_text_empty, is_text_of, is_true_at, last_text, list_at, metadata_of, named_ports, says_address, target_at}
pub use Rattle.np_meaning.specs.PolicyMeaning.{AreReadOf, IsBlockOf, IsNetPolicyOf, IsNetRule, IsReadOf, blocks_of, has_egress, has_ingress, is_empty, lists_type, namespace_in}
pub use Rattle.np_meaning.specs.SelectorMeaning.{any_item, are_same, has_entries, has_text, is_among, is_text, meets_expression, meets_members, meets_operator}
pub use Rattle.np_meaning.specs.TemplatePods.{HasTemplatePod, IsChainOfOwners, IsInChain, IsNamedIn, LacksPods, Owns, controller_item, pod_item}
pub use Rattle.np_meaning.specs.Types.{Absent, Action, Address, AddressSpan, Admin, AdminKind, AdminPeer, AdminPolicy, AdminPort, AdminRule, AdminSpec, Allow, Backend, BadAction, BadAddress, BadCidr, BadField, BadName, BadPort, BadPriority, BadProtocol, BadSelector, Base, BasePolicy, BaselineName, Block, Cidr, Controller, ControllerItem, ControllerKind, CronJob, DaemonSet, Deny, Deployment, Direction, DomainPeer, Egress, EmptyPeers, EstateLists, Family, Field, Foreign, ForeignPolicy, Four, Ingress, IngressItem, IpBlock, Item, Job, Name, Named, NamedPort, NamespaceItem, NamespacedName, Net, NetPeer, NetPolicy, NetPort, NetRule, NetSpec, Networks, NoPolicy, NodePeer, NoneOf, Number, Object, ObjectName, One, OneOf, Op, OwnerRef, Pair, Pass, PeerShape, Pod, PodItem, Pods, Policy, PolicyKind, PortName, PortValue, Present, Proto, Range, ReplicaSet, ReplicationController, Report, Requirement, Resource, Row, RowEnd, Selector, Service, ServiceItem, ServicePort, Six, Span, StatefulSet, Subject, Tcp, Template, Two, TypeMeta, Work}
