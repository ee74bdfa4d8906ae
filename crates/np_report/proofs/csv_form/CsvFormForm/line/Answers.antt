use Rattle.np_report.proofs.CsvLemmas.{line_is}
use Rattle.np_report.proofs.csv_form.CsvFormForm.line.Goals as goal
use Rattle.np_report.specs.Prelude.{csv_form}

pub returns : goal.returns
returns c =
    rw (
      c.in_ok-push-3.ensures.items,
      c.in_ok-put_field-3.ensures,
      c.in_ok-push-2.ensures.items,
      c.in_ok-put_field-2.ensures,
      c.in_ok-push.ensures.items,
      c.in_ok-put_field.ensures,
      c.in_ok-extend_from_slice.ensures.items,
      c.in_ok-line.ensures.items,
      c.as_bytes.ensures.value,
      c.end.ensures,
      c.as_str.ensures,
      c.as_str-2.ensures,
      c.as_str-3.ensures,
    )
    (line_is (csv_form.end c.args.has_rows) c.args.row.now)
