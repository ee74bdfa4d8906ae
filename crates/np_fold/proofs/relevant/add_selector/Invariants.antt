use Rattle.std.proofs.Common.{◌≡◌, drop, map}
use Rattle.np_fold.specs.Prelude.{with_keys}
use Rattle.np_fold.proofs.relevant.add_selector.Given as goal

-- with the keys of the requirements that are left they are all
abbrev pub invariant-loop-requirement : goal.invariant-loop-requirement
invariant-loop-requirement l = with_keys l.keys.keys (map (λ requirement. requirement.key) (drop l.requirement-index l.selector.requirements)) ≡ with_keys l.fn.keys.keys
    (map (λ requirement. requirement.key) l.selector.requirements)
