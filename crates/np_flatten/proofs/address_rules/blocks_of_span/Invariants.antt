use Rattle.std.proofs.Common.{◌≡◌, [], map}
use Rattle.np_flatten.specs.Prelude.{Block}
use Rattle.np_flatten.proofs.address_rules.blocks_of_span.Given as goal

-- the blocks so far
abbrev pub invariant-loop-cidr : goal.invariant-loop-cidr
invariant-loop-cidr l = l.peers ≡ map (λ cidr. Block cidr []) l.yielded
