use Rattle.std.proofs.Common.{refl}
use Rattle.np_report.proofs.text_form.TextFormForm.line.Goals as goal

pub returns : goal.returns
returns c =
    rw (
      c.in_ok-push.ensures.items,
      c.in_ok-extend_from_slice-5.ensures.items,
      c.in_ok-extend_from_slice-4.ensures.items,
      c.in_ok-extend_from_slice-3.ensures.items,
      c.in_ok-extend_from_slice-2.ensures.items,
      c.in_ok-extend_from_slice.ensures.items,
      c.in_ok-line.ensures.items,
      c.as_bytes.ensures.value,
      c.as_bytes-2.ensures.value,
      c.as_bytes-3.ensures.value,
      c.as_str.ensures,
      c.as_str-2.ensures,
      c.as_str-3.ensures,
    )
    refl
