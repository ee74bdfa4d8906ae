pub mod ExplainLemmas
pub mod NamedLemmas
pub mod OneTextLemmas
pub mod PromiseLemmas
pub mod ShownLemmas
