use Rattle.std.proofs.Common.{◌≡◌, ◌++◌, string_bytes, take}
use Rattle.std.specs.List.{flat_map}
use Rattle.np_frame.proofs.notes.ReportNotes.text.Given as goal
use Rattle.np_frame.specs.Prelude.{route_line}

abbrev pub invariant-loop-note : goal.invariant-loop-note
invariant-loop-note l = string_bytes l.text ≡ string_bytes l.initial.text ++ flat_map route_line (take l.note-index l.note-items)
