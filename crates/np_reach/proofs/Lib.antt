pub mod MarkLemmas
pub mod ReachLemmas
pub mod SpokenLemmas
pub mod StretchLemmas
