use Rattle.np_report.proofs.CsvLemmas.{header_is}
use Rattle.np_report.proofs.csv_form.CsvFormForm.end.Goals as goal

pub returns-else-has_rows : goal.returns-else-has_rows
returns-else-has_rows c = rw c.if-has_rows.false header_is
