-- What the steps of the code make, which private contracts and proofs cite: no public contract needs it.
pub mod Firsts
pub mod Kinds
pub mod Known
pub mod SameKinds
pub mod Search
pub mod Unknown
