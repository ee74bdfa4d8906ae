pub mod ExposureLemmas
pub mod KnownLemmas
pub mod PromiseLemmas
pub mod SideLemmas
mod WorkloadLemmas
