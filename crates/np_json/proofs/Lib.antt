pub mod PairLemmas
pub mod ReadLemmas
pub mod ShapeLemmas
