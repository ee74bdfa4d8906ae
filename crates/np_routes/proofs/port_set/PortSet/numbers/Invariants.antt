use Rattle.std.proofs.Common.{◌≡◌, map}
use Rattle.np_routes.proofs.port_set.PortSet.numbers.Given as goal

-- the numbers so far
abbrev pub invariant-loop-number : goal.invariant-loop-number
invariant-loop-number l = l.made.items ≡ map (λ one. one.now) l.yielded
