-- The types and variants of structs and enums that this crate's definitions and proofs speak of, its own and those of the crates below.
pub use Rattle.np_json.specs.declared.fault.FaultKind.{FaultKind}
pub use Rattle.np_json.specs.declared.fault.FaultKind.TheVariants.{BadAction, BadAddress, BadCidr, BadExcept, BadField, BadName, BadPort, BadPriority, BadProtocol, BadSelector, BaselineName, DomainPeer, EmptyPeers, ForeignPolicy, NodePeer, PeerShape}
pub use Rattle.np_json.specs.declared.fault.ReadFault.{ReadFault}
pub use Rattle.np_json.specs.declared.flaw.Flaw.{Flaw}
pub use Rattle.np_json.specs.declared.flaw.ShapeFault.{ShapeFault}
pub use Rattle.np_json.specs.declared.flaw.ShapeFault.TheVariants.{Bad, NoMemory}
pub use Rattle.np_json.specs.declared.meta.NamespacedName.{NamespacedName}
pub use Rattle.np_json.specs.declared.path.Step.{Step}
pub use Rattle.np_json.specs.declared.path.Step.TheVariants.{Field, Item}
