use Rattle.std.proofs.Common.{◌≡◌, drop}
use Rattle.np_check.specs.Prelude.{broken_in, first_given}
use Rattle.np_check.proofs.addresses.first_broken.Given as goal

-- the first in the rows that are left is the first in all
abbrev pub invariant-loop-row : goal.invariant-loop-row
invariant-loop-row l =
    first_given (broken_in l.claim.wanted l.claim.conns.now l.block) (drop l.row-index l.rows) ≡ first_given (broken_in l.claim.wanted l.claim.conns.now l.block) l.rows
