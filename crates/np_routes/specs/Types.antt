-- The types and variants of structs and enums that this crate's definitions and proofs speak of, its own and those of the crates below.
pub use Rattle.np_conns.specs.declared.port_spot.PortSpot.{PortSpot}
pub use Rattle.np_conns.specs.declared.proto.Proto.{Proto}
pub use Rattle.np_conns.specs.declared.proto.Proto.TheVariants.{Sctp, Tcp, Udp}
pub use Rattle.np_addr.specs.declared.address.Family.{Family}
pub use Rattle.np_addr.specs.declared.address.Family.TheVariants.{Four, Six}
pub use Rattle.np_model.specs.declared.direction.Direction.TheVariants.{Egress, Ingress}
pub use Rattle.np_model.specs.declared.ingress.Backend.{Backend}
pub use Rattle.np_model.specs.declared.lists.EstateLists.{EstateLists}
pub use Rattle.np_model.specs.declared.named_port.NamedPort.{NamedPort}
pub use Rattle.np_model.specs.declared.placed_ingress.PlacedIngress.{PlacedIngress}
pub use Rattle.np_model.specs.declared.pod.Pod.{Pod}
pub use Rattle.np_model.specs.declared.service.PortName.{PortName}
pub use Rattle.np_model.specs.declared.service.PortName.TheVariants.{Named, Number}
pub use Rattle.np_model.specs.declared.service.ServiceItem.{ServiceItem}
pub use Rattle.np_model.specs.declared.service.ServicePort.{ServicePort}
pub use Rattle.np_rules.specs.declared.stranger.Stranger.{Stranger}
pub use Rattle.np_table.specs.declared.rows.Row.{Row}
pub use Rattle.np_table.specs.declared.rows.RowEnd.{RowEnd}
pub use Rattle.np_table.specs.declared.rows.RowEnd.TheVariants.{Controller, Span, Work}
pub use Rattle.np_table.specs.declared.rows.RowKey.{RowKey}
pub use Rattle.np_routes.specs.declared.asked_services.AskedService.{AskedService}
pub use Rattle.np_routes.specs.declared.port_set.PortSet.{PortSet}
pub use Rattle.np_routes.specs.declared.senders.Sender.{Sender}
pub use Rattle.np_routes.specs.declared.service_targets.ServiceTargets.{ServiceTargets}
