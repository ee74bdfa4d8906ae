pub mod BlockLemmas
pub mod ReadLemmas
pub mod WellAdmin
pub mod WellLemmas
pub mod WellNetwork
pub mod WellPolicies
