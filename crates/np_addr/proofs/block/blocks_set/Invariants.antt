use Rattle.std.proofs.Common.{◌≡◌, take}
use Rattle.std.specs.List.{list_any}
use Rattle.np_addr.specs.Prelude.{Address, cidr_has, set_has}
use Rattle.np_addr.proofs.block.blocks_set.Given as goal

-- the sets so far have the addresses of the blocks so far
abbrev pub invariant-loop-block : goal.invariant-loop-block
invariant-loop-block l = (address : Address) → list_any (λ set. set_has set address) l.sets.items ≡ list_any (λ block. cidr_has block address) (take l.block-index l.blocks)
