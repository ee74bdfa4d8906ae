use Rattle.std.proofs.Common.{◌∙◌, ◌++◌, ℕ, List, ap, append_assoc, get_or, string_bytes, sym, take}
use Rattle.std.proofs.lemmas.List.{get_or_default}
use Rattle.std.specs.List.{flat_map}
use Rattle.np_frame.proofs.notes.ReportNotes.text.Goals as goal
use Rattle.np_frame.specs.Prelude.{route_line}
use Rattle.np_routes.specs.declared.route_note.RouteNote.{RouteNote}
use Rattle.np_routes.specs.declared.route_note.RouteFlaw.TheVariants.{NoService}
use Rattle.np_rules.proofs.PlacesLemmas.{flat_map-next}

-- the line of the next note stands behind those before it
pub loop-note-preserved : goal.loop-note-preserved
loop-note-preserved c =
    let notes : List RouteNote = c.items-note-items.result.now in
    let i = c.loop-note.note-index in
    let none : RouteNote = record { item = 0; backend = 0; flaw = NoService } in
    let note = get_or notes i none in
    let before = string_bytes c.in_ok-text.text in
    let lines = flat_map route_line (take i notes) in
    c.in_ok-push_str.ensures.bytes
    ∙ ap (λ (line : List ℕ). string_bytes c.loop-note.text ++ line) (c.as_str.ensures.value ∙ c.in_ok-route_line.ensures)
    ∙ ap (λ (text : List ℕ). text ++ route_line note) c.loop-note.invariant
    ∙ append_assoc before lines (route_line note)
    ∙ ap (λ (text : List ℕ). before ++ text) (sym (flat_map-next route_line notes i note c.loop-note-test.true (get_or_default notes i none note c.loop-note-test.true)))
