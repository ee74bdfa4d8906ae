use Rattle.std.proofs.Common.{◌≡◌, ◌++◌, codes, flat_map, string_bytes, take}
use Rattle.np_exposure.specs.Prelude.{requirement_text}
use Rattle.np_exposure.proofs.peer_text.push_others.Given as goal

abbrev pub invariant-loop-requirement : goal.invariant-loop-requirement
invariant-loop-requirement l = string_bytes l.text ≡ string_bytes l.fn.text ++ flat_map (λ asked. codes " and " ++ requirement_text asked) (take l.requirement-index l.others)
