-- How it is told why a call on a report was refused.
use Rattle.std.specs.Prelude.{ℕ, List, codes}
use Rattle.np_report.specs.declared.report_fault.ReportFault.{ReportFault}
use Rattle.np_report.specs.declared.report_fault.ReportFault.TheVariants.{SinkFailed, Broken, NoMemory}

abbrev pub report_fault_text : ReportFault → List ℕ
report_fault_text SinkFailed = codes "cannot write"
report_fault_text Broken = codes "the report was refused or has ended"
report_fault_text NoMemory = codes "out of memory"
