pub mod InputLemmas
pub mod ItemLemmas
pub mod LawLemmas
pub mod ReadingLemmas
