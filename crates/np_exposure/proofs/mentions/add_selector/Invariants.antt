use Rattle.std.proofs.Common.{◌≡◌, ◌++◌, map, take}
use Rattle.np_exposure.proofs.mentions.add_selector.Given as goal

abbrev pub invariant-loop-requirement : goal.invariant-loop-requirement
invariant-loop-requirement l = l.made.items ≡ l.fn.made.items ++ map (λ requirement. record { side = l.side; requirement = requirement }) (take l.requirement-index l.selector.requirements)
