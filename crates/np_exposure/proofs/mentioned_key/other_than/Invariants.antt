use Rattle.std.proofs.Common.{◌≡◌, flat_map, string_bytes, take}
use Rattle.np_exposure.proofs.mentioned_key.other_than.Given as goal

abbrev pub invariant-loop-value : goal.invariant-loop-value
invariant-loop-value l = string_bytes l.text ≡ flat_map (λ value. value) (take l.value-index l.values)
