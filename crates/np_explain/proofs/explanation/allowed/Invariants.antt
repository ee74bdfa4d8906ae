use Rattle.std.proofs.Common.{◌≡◌, take}
use Rattle.np_conns.specs.Prelude.{IsConns, has_spot}
use Rattle.np_explain.specs.Prelude.{PortSpot, some_allows}
use Rattle.np_explain.proofs.explanation.allowed.Given as goal

-- what the parts so far allow
abbrev pub invariant-loop-part : goal.invariant-loop-part
invariant-loop-part l = record {
  members : (spot : PortSpot) → has_spot l.set spot ≡ some_allows (take l.part-index l.parts) spot;
  well : IsConns l.set;
}
