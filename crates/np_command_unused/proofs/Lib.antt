pub mod OneListLemmas
pub mod PromiseLemmas
