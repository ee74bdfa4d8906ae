pub mod EndLemmas
pub mod InputLemmas
pub mod LeftLemmas
pub mod PuttingLemmas
pub mod SinkLemmas
pub mod StepLemmas
pub mod WroteLemmas
