use Rattle.std.proofs.Common.{◌≡◌, ◌++◌, ◌∙◌, List, ℕ, codes, refl, ap, if◌then◌else◌}
use Rattle.np_report.proofs.JsonLemmas.{object_text, row_tokens}
use Rattle.np_report.proofs.json_form.JsonFormForm.line.Goals as goal
use Rattle.np_report.proofs.json_form.JsonFormForm.line.Goals.{then-has_rows, else-has_rows}

pub returns : goal.returns
returns c =
    let tokens : c.end_object.new.self.tokens ≡ row_tokens c.args.row.now =
    rw (
      c.in_ok-end_object.ensures.ok,
      c.in_ok-string-3.ensures.ok,
      c.in_ok-key-3.ensures.ok,
      c.in_ok-string-2.ensures.ok,
      c.in_ok-key-2.ensures.ok,
      c.in_ok-string.ensures.ok,
      c.in_ok-key.ensures.ok,
      c.in_ok-begin_object.ensures.ok,
      c.new-object.ensures.tokens,
      c.as_str.ensures,
      c.as_str-2.ensures,
      c.as_str-3.ensures,
    ) refl in
    let first : c.if-has_rows.as_bytes.now ≡ (if c.args.has_rows then codes ",\n" else codes "[") =
    elim c.if-has_rows.branch [ then-has_rows w ↦ rw w.if-has_rows.true (ap (λ (text : _). text.now) w.as_bytes-is) | else-has_rows w ↦ rw w.if-has_rows.false (ap (λ (text : _). text.now) w.as_bytes-is) ] in
    let before : c.end_object.new.self.before ≡ (if c.args.has_rows then codes ",\n" else codes "[") =
    rw (
      c.in_ok-end_object.ensures.room.0,
      c.in_ok-string-3.ensures.room.0,
      c.in_ok-key-3.ensures.room.0,
      c.in_ok-string-2.ensures.room.0,
      c.in_ok-key-2.ensures.room.0,
      c.in_ok-string.ensures.room.0,
      c.in_ok-key.ensures.room.0,
      c.in_ok-begin_object.ensures.room.0,
      c.new-object.ensures.before,
      c.in_ok-extend_from_slice.ensures.items,
      c.in_ok-line.ensures.items,
      c.as_bytes.ensures.value,
    )
    first in
    c.into_inner.ensures.items ∙ rw (before, tokens) (ap (λ (text : List ℕ). (if c.args.has_rows then codes ",\n" else codes "[") ++ text) (object_text c.args.row.now))
