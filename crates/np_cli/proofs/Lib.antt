pub mod AnswerLemmas
pub mod CountsLemmas
pub mod DoneLemmas
pub mod HeadlineLemmas
pub mod OutcomesLemmas
pub mod PromisesLemmas
pub mod RunsLemmas
pub mod SampleLemmas
