-- The notes on a whole report, as their lines.
use Rattle.std.specs.Prelude.{ℕ, List, [], ◌++◌, ◌==◌, codes, decimal, flat_map, if◌then◌else◌}
use Rattle.np_model.specs.declared.notes.Notes.{Notes}
use Rattle.np_frame.specs.declared.notes.ReportNotes.{ReportNotes}
use Rattle.np_routes.specs.Prelude.{route_note_text}
use Rattle.np_routes.specs.declared.route_note.RouteNote.{RouteNote}

-- the line of a note, where its number is not 0
unfoldable pub note : List ℕ → ℕ → List ℕ
note what count = if count == 0 then [] else codes "note: " ++ what ++ codes ": " ++ decimal count ++ codes "\n"

-- what was left out of a whole report
abbrev pub left_out_text : Notes → List ℕ
left_out_text notes =
    note (codes "host network pods left out") notes.host
    ++ note (codes "finished pods left out") notes.finished
    ++ note (codes "objects of other kinds skipped") notes.skipped
    ++ note (codes "pods without an address, matched by no networks peer") notes.unaddressed

-- the line of a backend of an ingress that leads nowhere, or not where it seems to
abbrev pub route_line : RouteNote → List ℕ
route_line note = codes "note: " ++ route_note_text note ++ codes "\n"

-- what is said of a whole report
abbrev pub notes_text : ReportNotes → List ℕ
notes_text notes = left_out_text notes.left_out ++ flat_map route_line notes.routes
