-- What only the steps of the proofs speak of.
pub mod Explaining
