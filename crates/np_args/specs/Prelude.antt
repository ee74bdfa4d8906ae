-- The definitions and types of this crate that its proofs and the crates above speak of, one import line a file.
pub use Rattle.np_args.specs.Arguments.{are_files, asked_of, checked_files, command_of, default_rule, file_rule, files_in, is_empty, option_rule, required_rule, value_in}
pub use Rattle.np_args.specs.CheckWords.{check_command, check_of}
pub use Rattle.np_args.specs.CommandLines.{asked_by, job_of, jobs}
pub use Rattle.np_args.specs.EvaluateWords.{evaluate_command, evaluate_of}
pub use Rattle.np_args.specs.ExplainWords.{explain_command, explain_of}
pub use Rattle.np_args.specs.ExposureWords.{exposure_command, exposure_of}
pub use Rattle.np_args.specs.Faults.{fault_of_kind}
pub use Rattle.np_args.specs.FileWords.{files_command, files_of}
pub use Rattle.np_args.specs.Jobs.{IsWell}
pub use Rattle.np_args.specs.Laws.{Setting, Table, controller_is, default_table, focus_is, format_is, format_word, is_list_option, is_plain, is_same_option, or_standard_input, report_is, report_word, setting_word, side_is, side_word, table_job, text_table, with_setting}
pub use Rattle.np_args.specs.ListWords.{list_command, list_job_of}
pub use Rattle.np_args.specs.SampleWords.{sample_command, sample_of}
pub use Rattle.np_args.specs.Types.{At, Check, Csv, Destination, Either, EndWord, Evaluate, Explain, Exposure, Flatten, FocusSide, Format, Job, Json, List, Named, NoMemory, One, Plain, Proto, Report, Sample, Source, Two, Unused, Usage, WordsFault}
pub use Rattle.np_args.specs.Values.{Word, focus_side_of, format_of, number_to, packet_end_of, report_of}
