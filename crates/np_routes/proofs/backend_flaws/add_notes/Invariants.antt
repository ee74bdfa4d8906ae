use Rattle.std.proofs.Common.{◌≡◌, ◌++◌, ◌+◌, drop, flat_map}
use Rattle.std.specs.List.{enumerate_from}
use Rattle.std.specs.Option.{option_to_list}
use Rattle.np_routes.specs.RouteNotes as spec
use Rattle.np_routes.proofs.backend_flaws.add_notes.Given as goal

-- the notes so far and those of the backends to come are all of them
abbrev pub invariant-loop-place : goal.invariant-loop-place
invariant-loop-place l =
    l.notes ++ flat_map (λ numbered. option_to_list (spec.note_of l.services l.placed numbered)) (enumerate_from (l.place + 1) (drop l.place l.placed.ingress.backends)) ≡ l.fn.notes
    ++ spec.notes_of_ingress l.services l.placed
