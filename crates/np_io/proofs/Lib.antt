mod Adding
mod Counting
mod HandingOut
mod Places
pub mod TakenLemmas
mod Taking
