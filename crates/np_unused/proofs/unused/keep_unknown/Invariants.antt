use Rattle.std.proofs.Common.{◌≡◌, filter, not, take}
use Rattle.np_unused.proofs.unused.keep_unknown.Given as goal
use Rattle.np_unused.specs.Prelude.{is_known_by}

abbrev pub invariant-loop-rule : goal.invariant-loop-rule
invariant-loop-rule l = l.kept ≡ filter (λ rule. not (is_known_by l.ingress l.egress rule)) (take l.rule-index l.rules)
