use Rattle.std.proofs.Common.{◌≡◌, flat_map, take}
use Rattle.np_routes.specs.RouteNotes as spec
use Rattle.np_routes.proofs.backend_flaws.route_notes.Given as goal

-- the notes of the ingresses so far
abbrev pub invariant-loop-placed : goal.invariant-loop-placed
invariant-loop-placed l = l.notes ≡ flat_map (spec.notes_of_ingress l.estate.services) (take l.placed-index l.placed-items)
