use Rattle.std.proofs.Common.{◌≡◌, ◌||◌, ℕ, List, take}
use Rattle.std.specs.List.{list_any}
use Rattle.np_routes.specs.Prelude.{Named, Number, has_port, is_named_in}
use Rattle.np_routes.proofs.targets.add_named.Given as goal

-- the numbers of before and those of the ports so far whose names are there; the names stay
abbrev pub invariant-loop-port : goal.invariant-loop-port
invariant-loop-port l = record {
  numbers : (number : ℕ) → has_port l.targets (Number number) ≡ (has_port l.fn.targets (Number number) || list_any (is_named_in (has_port l.fn.targets) number) (take l.port-index l.ports));
  names : (name : List ℕ) → has_port l.targets (Named name) ≡ has_port l.fn.targets (Named name);
}
