pub mod ChainLemmas
pub mod ChainPlaces
pub mod Ends
pub mod MakerLemmas
pub mod Owned
pub mod Pigeonhole
pub mod PlaceLemmas
pub mod Walks
