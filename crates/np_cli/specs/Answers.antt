-- What a job prints for its inputs, or why it refuses them.
use Rattle.std.specs.Prelude.{ℕ, List, [], Bool, true, false, Option, Some, None, Result, Ok, Err, if◌then◌else◌}
use Rattle.np_model.specs.Prelude.{IsLawful}
use Rattle.np_cli.specs.Types.{Check, Done, Ending, EstateLists, Evaluate, Explain, Exposure, Fault, Flatten, Job, List as ListJob, ReportNotes, Sample, Unused, Violated}
use Rattle.np_frame.specs.Prelude.{is_too_large, objects_of}
use Rattle.np_command_check.specs.Prelude.{all_hold, check_reply, statement_bytes}
use Rattle.np_command_evaluate.specs.Report.{evaluate_reply}
use Rattle.np_command_explain.specs.Prelude.{explain_reply}
use Rattle.np_command_exposure.specs.Report.{exposure_reply}
use Rattle.np_command_flatten.specs.Prelude.{flatten_reply}
use Rattle.np_command_list.specs.Prelude.{list_reply}
use Rattle.np_command_sample.specs.Prelude.{HasFewRows, sample_summary}
use Rattle.np_command_unused.specs.Report.{unused_text}
use Rattle.np_routes.specs.Prelude.{notes_of_routes}
use Rattle.np_command.specs.Prelude.{fault_in, text_in}

-- ---- what is printed

-- what a job prints by the bytes that it read and what they say, or why it refuses that
unfoldable pub reply : Job → List (List ℕ) → EstateLists → Result (List ℕ) Fault
reply (ListJob format report controller focus side files) texts lists = list_reply format report controller focus side lists
reply (Explain from to files) texts lists = explain_reply from to lists
reply (Exposure workload format files) texts lists = exposure_reply workload format lists
reply (Evaluate from to proto port files) texts lists = evaluate_reply from to (record { proto = proto; port = port }) lists
reply (Unused files) texts lists = Ok (unused_text lists)
reply (Check statement files) texts lists = check_reply (statement_bytes texts) lists
reply (Flatten files) texts lists = flatten_reply lists
reply (Sample n) texts lists = Ok (sample_summary lists)

-- what a job prints by the bytes that it read and what they are read as, or why it refuses that
abbrev pub reply_in : Job → List (List ℕ) → Result EstateLists Fault → Result (List ℕ) Fault
reply_in job texts (Ok lists) = reply job texts lists
reply_in job texts (Err fault) = Err fault

-- ---- how the report ends

abbrev pub no_notes : ReportNotes
no_notes = record { left_out = record { host = 0; finished = 0; skipped = 0; unaddressed = 0 }; routes = [] }

-- what was left out
abbrev pub other_notes : EstateLists → ReportNotes
other_notes lists = record { left_out = lists.notes; routes = [] }

-- What is said of a job's report: what was left out of it, and of `list` the backends of ingresses that lead nowhere;
-- of `sample` nothing.
unfoldable pub report_notes : Job → EstateLists → ReportNotes
report_notes (ListJob format report controller focus side files) lists = record { left_out = lists.notes; routes = notes_of_routes lists }
report_notes (Explain from to files) lists = other_notes lists
report_notes (Exposure workload format files) lists = other_notes lists
report_notes (Evaluate from to proto port files) lists = other_notes lists
report_notes (Unused files) lists = other_notes lists
report_notes (Check statement files) lists = other_notes lists
report_notes (Flatten files) lists = other_notes lists
report_notes (Sample n) lists = no_notes

-- whether all that a job was to check holds: of every other job than `check` there is nothing to check
unfoldable pub check_holds : Job → List (List ℕ) → EstateLists → Bool
check_holds (ListJob format report controller focus side files) texts lists = true
check_holds (Explain from to files) texts lists = true
check_holds (Exposure workload format files) texts lists = true
check_holds (Evaluate from to proto port files) texts lists = true
check_holds (Unused files) texts lists = true
check_holds (Check statement files) texts lists = all_hold (statement_bytes texts) lists
check_holds (Flatten files) texts lists = true
check_holds (Sample n) texts lists = true

abbrev pub ends_so : Bool → ReportNotes → Ending
ends_so true notes = Done notes
ends_so false notes = Violated

abbrev pub ending : Job → List (List ℕ) → EstateLists → Ending
ending job texts lists = ends_so (check_holds job texts lists) (report_notes job lists)

abbrev pub ending_in : Job → List (List ℕ) → Result EstateLists Fault → Ending
ending_in job texts (Ok lists) = ending job texts lists
ending_in job texts (Err fault) = Done no_notes

-- what is read is lawful
abbrev pub IsLawfulIn : Result EstateLists Fault → Type 0
IsLawfulIn (Ok lists) = IsLawful lists
IsLawfulIn (Err fault) = Unit {0}

-- ---- by the bytes alone

-- The fault that stands first, if there is one: that of the inputs, else that there are too many workloads, else that
-- of the command: of its statements, of the ends that it names, or of what it finds.
unfoldable pub refusal : Job → List (List ℕ) → Option Fault
refusal job texts = fault_in (reply_in job texts (objects_of job texts))

-- what is printed where there is none
unfoldable pub printed_text : Job → List (List ℕ) → List ℕ
printed_text job texts = text_in (reply_in job texts (objects_of job texts))

-- how the report ends where there is none
unfoldable pub ending_of : Job → List (List ℕ) → Ending
ending_of job texts = ending_in job texts (objects_of job texts)

-- what may be written: the whole text where the bytes are accepted, else nothing
unfoldable pub output : Option Job → List (List ℕ) → List ℕ
output None texts = []
output (Some job) texts = if is_too_large texts then [] else printed_text job texts

-- the table of a sample can be counted; of other jobs nothing is
abbrev pub IsCountable : Job → EstateLists → Type 0
IsCountable (Sample n) lists = HasFewRows lists
IsCountable job lists = Unit {0}
