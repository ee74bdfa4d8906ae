use Rattle.std.proofs.Common.{◌≡◌, take}
use Rattle.np_routes.proofs.backend_flaws.ports_of_all.Given as goal

-- the services so far
abbrev pub invariant-loop-service : goal.invariant-loop-service
invariant-loop-service l = l.made.items ≡ take l.service-index l.listed
