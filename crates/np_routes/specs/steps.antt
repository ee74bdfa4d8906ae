-- What the steps of the code make, which private contracts and proofs cite: no public contract needs it.
pub mod AskedServices
pub mod IngressRows
pub mod PortSets
pub mod Senders
pub mod ServicesByName
pub mod Targets
pub mod TargetsByNamespace
