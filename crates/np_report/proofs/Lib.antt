mod CsvLemmas
mod JsonLemmas
mod SpanLemmas
mod TableLemmas
pub mod LineLemmas
pub mod ToComeLemmas
