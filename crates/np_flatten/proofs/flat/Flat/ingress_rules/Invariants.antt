use Rattle.std.proofs.Common.{◌≡◌, flat_map}
use Rattle.np_classes.specs.Classes.{places}
use Rattle.np_flatten.proofs.flat.Flat.ingress_rules.Given as goal
use Rattle.np_flatten.specs.Prelude.{rules_from_group}

-- the rules of the groups so far
abbrev pub invariant-loop-sender : goal.invariant-loop-sender
invariant-loop-sender l = record {
  same : l.self ≡ l.fn.self;
  rules : l.rules ≡ flat_map (rules_from_group l.fn.self l.group) (places l.sender);
}
