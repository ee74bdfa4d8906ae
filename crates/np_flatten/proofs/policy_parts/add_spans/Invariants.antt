use Rattle.std.proofs.Common.{◌≡◌, ◌++◌, map, take}
use Rattle.np_flatten.proofs.policy_parts.add_spans.Given as goal
use Rattle.np_flatten.specs.Prelude.{span_of}

-- the ports have the runs so far
abbrev pub invariant-loop-run : goal.invariant-loop-run
invariant-loop-run l = l.ports ≡ l.fn.ports ++ map (span_of l.proto) (take l.run-index l.runs)
