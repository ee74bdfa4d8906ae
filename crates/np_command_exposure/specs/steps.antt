-- What the steps of the code make, which proofs alone cite: no public contract needs it.
pub mod Known
pub mod Light
