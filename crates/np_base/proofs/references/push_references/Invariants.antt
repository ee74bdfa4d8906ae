use Rattle.std.proofs.Common.{◌≡◌, ◌++◌, map, take}
use Rattle.np_base.proofs.references.push_references.Given as goal

-- the items so far stand last
abbrev pub invariant-loop-item : goal.invariant-loop-item
invariant-loop-item g l = map (λ item. item.now) l.references.items ≡ map (λ item. item.now) l.initial.references.items ++ take l.item-index l.items
