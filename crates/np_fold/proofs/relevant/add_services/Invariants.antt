use Rattle.std.proofs.Common.{◌≡◌, drop, flat_map}
use Rattle.np_fold.specs.Prelude.{keys_of_service, with_keys}
use Rattle.np_fold.proofs.relevant.add_services.Given as goal

-- with the keys of those that are left they are all
abbrev pub invariant-loop-service : goal.invariant-loop-service
invariant-loop-service l = with_keys l.keys.keys (flat_map keys_of_service (drop l.service-index l.services)) ≡ with_keys l.fn.keys.keys (flat_map keys_of_service l.services)
