pub mod ConnLemmas
mod MeetLemmas
pub mod OneText
pub mod PrintedForms
pub mod ReadLemmas
pub mod RunLemmas
pub mod SplitLemmas
pub mod TextLemmas
