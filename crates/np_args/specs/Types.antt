-- The types and variants of structs and enums that this crate's definitions and proofs speak of, its own and those of the crates below.
pub use Rattle.np_conns.specs.declared.proto.Proto.{Proto}
pub use Rattle.np_args.specs.declared.end_word.EndWord.{EndWord}
pub use Rattle.np_args.specs.declared.end_word.EndWord.TheVariants.{At, Named}
pub use Rattle.np_args.specs.declared.focus_side.FocusSide.{FocusSide}
pub use Rattle.np_args.specs.declared.focus_side.FocusSide.TheVariants.{Destination, Either, Source}
pub use Rattle.np_args.specs.declared.format.Format.{Format}
pub use Rattle.np_args.specs.declared.format.Format.TheVariants.{Csv, Json, Plain}
pub use Rattle.np_args.specs.declared.job.Job.{Job}
pub use Rattle.np_args.specs.declared.job.Job.TheVariants.{Check, Evaluate, Explain, Exposure, Flatten, List, Sample, Unused}
pub use Rattle.np_args.specs.declared.report.Report.{Report}
pub use Rattle.np_args.specs.declared.report.Report.TheVariants.{One, Two}
pub use Rattle.np_args.specs.declared.words_fault.WordsFault.{WordsFault}
pub use Rattle.np_args.specs.declared.words_fault.WordsFault.TheVariants.{NoMemory, Usage}
