pub mod AddressLemmas
pub mod OwnerLemmas
pub mod OwnerReads
pub mod ReadLemmas
pub mod WellLemmas
