pub mod BrokenLemmas
pub mod FileLemmas
pub mod FoundLemmas
pub mod KnownLemmas
pub mod OneFindingLemmas
pub mod OneListLemmas
pub mod OnePacketLemmas
pub mod PromiseLemmas
