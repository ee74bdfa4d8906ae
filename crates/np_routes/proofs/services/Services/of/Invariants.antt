use Rattle.std.proofs.Common.{ℕ, List, take}
use Rattle.np_routes.specs.Prelude.{IsPlaceOf, place_at, service_named}
use Rattle.np_routes.proofs.services.Services.of.Given as goal

-- under each name stands the place of the first one so far
abbrev pub invariant-loop-place : goal.invariant-loop-place
invariant-loop-place l = (namespace name : List ℕ) → IsPlaceOf l.listed (service_named (take l.place l.listed) namespace name) (place_at l.places namespace name)
