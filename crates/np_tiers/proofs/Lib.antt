pub mod Choice
pub mod EntryLists
pub mod Exact
pub mod FirstMatch
pub mod Places
pub mod Runs
pub mod Tiers
pub mod Verdicts
