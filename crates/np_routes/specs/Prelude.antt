-- The definitions and types of this crate that its proofs and the crates above speak of, one import line a file.
pub use Rattle.np_routes.specs.ClusterTable.{ClusterTable, ClusterToCome, cluster_rows, ingress_key, is_from_controller, is_ingress_controller, rows_from_controller}
unfoldable pub use Rattle.np_routes.specs.ClusterTable.{all_ingress_rows, cluster_table, ingress_row}
pub use Rattle.np_routes.specs.Controllers.{Routing, any_controller, ingress_steps, is_controller, may_send, sender_of}
unfoldable pub use Rattle.np_routes.specs.Controllers.{ingress_allows, ingress_reaches}
pub use Rattle.np_routes.specs.RouteNotes.{backend_flaw, flaw_text, listed_flaw, note_of, notes_of_ingress, route_note_text, serves_none, service_flaw}
unfoldable pub use Rattle.np_routes.specs.RouteNotes.{notes_of_routes}
pub use Rattle.np_routes.specs.Routes.{LeadsTo, Route, is_routed, leads_to, routes_of_backend, routes_of_ingress, routes_through}
unfoldable pub use Rattle.np_routes.specs.Routes.{routes_in}
pub use Rattle.np_routes.specs.Services.{is_backend_port, is_named_by, is_pod_port, is_service, is_target, serves, service_named}
pub use Rattle.np_routes.specs.Types.{AskedService, Backend, Controller, Egress, EstateLists, Family, Four, Ingress, Named, NamedPort, Number, PlacedIngress, Pod, PortName, PortSet, PortSpot, Proto, Row, RowEnd, RowKey, Sctp, Sender, ServiceItem, ServicePort, ServiceTargets, Six, Span, Stranger, Tcp, Udp, Work}
pub use Rattle.np_routes.specs.steps.AskedServices.{asked_leads, asked_port_leads, services_of}
pub use Rattle.np_routes.specs.steps.IngressRows.{IsAtWorkload, due_left, rows_left}
unfoldable pub use Rattle.np_routes.specs.steps.IngressRows.{ingress_due, ingress_rows_from}
pub use Rattle.np_routes.specs.steps.PortSets.{HoldsBackendPorts, at_pod, has_own, has_port, has_text, held_at, is_named_in, is_same_port}
pub use Rattle.np_routes.specs.steps.Senders.{IsReceiver, reaches, receives, send_steps, sender_for, sends}
pub use Rattle.np_routes.specs.steps.ServicesByName.{HoldsPlaces, IsPlaceOf, compare_names, place_at}
pub use Rattle.np_routes.specs.steps.Targets.{has_target}
pub use Rattle.np_routes.specs.steps.TargetsByNamespace.{HoldsTargets, target_leads, targets_in}
