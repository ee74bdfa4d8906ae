pub mod OneLineLemmas
pub mod SourcesLemmas
