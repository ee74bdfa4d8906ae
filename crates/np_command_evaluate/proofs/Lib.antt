pub mod EvaluateLemmas
pub mod PromiseLemmas
