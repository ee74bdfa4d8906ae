-- What the steps of the code make, which private contracts and proofs cite: no public contract needs it.
pub mod Broken
pub mod Pairs
