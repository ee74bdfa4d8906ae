use Rattle.std.proofs.Common.{◌≡◌}
use Rattle.np_test_commands.proofs.flat.policies_text.Given as goal

-- the policies stay as they are
abbrev pub invariant-loop-group : goal.invariant-loop-group
invariant-loop-group l = l.flat ≡ l.fn.flat
