use Rattle.std.proofs.Common.{List, ℕ, ◌++◌}
use Rattle.std.specs.Ordering.{nat_cmp}
use Rattle.std.specs.Cmp.Lexicographic.{slice_cmp}
use Rattle.std.specs.List.Sorted.{IsStrictlySortedBy}
use Rattle.std.specs.Map as map_of
use Rattle.np_labels.specs.Prelude.{keys_of}
use Rattle.np_labels.proofs.Settling.{IsInTurn}
use Rattle.np_labels.proofs.possibility.settle.Given as goal

-- The keys so far and then those that are left ascend, and each key is settled or is still to come.
abbrev pub invariant-loop-key : goal.invariant-loop-key
invariant-loop-key l = record {
  ascending : IsStrictlySortedBy (slice_cmp nat_cmp) (keys_of l.pairs.items ++ map_of.keys_of l.key-iterator);
  in_turn : (key : List ℕ) → IsInTurn l.fn.demands.entries l.key-iterator l.pairs.items key;
}
