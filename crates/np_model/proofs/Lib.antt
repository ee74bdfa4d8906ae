pub mod FamilyLemmas
pub mod WordLemmas
