use Rattle.std.proofs.Common.{◌≡◌, ◌++◌, drop}
use Rattle.np_fold.proofs.blocks.add_all.Given as goal

-- with those that are left they are all
abbrev pub invariant-loop-cidr : goal.invariant-loop-cidr
invariant-loop-cidr l = l.cidrs ++ drop l.cidr-index l.more ≡ l.fn.cidrs ++ l.more
