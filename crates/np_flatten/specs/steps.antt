-- What the steps of the code make, which private contracts and proofs cite: no public contract needs it.
pub mod Agree
pub mod Filled
pub mod Least
pub mod Next
pub mod OwnSets
pub mod Seen
pub mod SplitRows
pub mod Unlike
