use Rattle.std.proofs.Common.{◌≡◌, ◌++◌, map, take}
use Rattle.np_exposure.specs.Prelude.{label_at}
use Rattle.np_exposure.proofs.mentioned_key.add_labels.Given as goal

abbrev pub invariant-loop-key : goal.invariant-loop-key
invariant-loop-key l = l.labels.items ≡ l.fn.labels.items ++ map (label_at l.side l.mentions) (take l.key-index l.key-items)
