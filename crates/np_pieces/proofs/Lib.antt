pub mod Found
pub mod Growing
pub mod Overlaps
pub mod Overs
pub mod SamePieces
pub mod Walks
