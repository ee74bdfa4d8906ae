pub mod ApartLemmas
pub mod CountLemmas
pub mod NumberLemmas
pub mod ThingLemmas
