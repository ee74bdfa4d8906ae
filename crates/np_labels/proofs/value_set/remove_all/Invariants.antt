use Rattle.std.proofs.Common.{◌≡◌, List, ℕ, not, ◌&&◌, take}
use Rattle.std.specs.Ordering.{nat_cmp}
use Rattle.std.specs.Cmp.Lexicographic.{slice_cmp}
use Rattle.std.specs.BTreeSet.{contains}
use Rattle.np_labels.specs.Prelude.{is_listed}
use Rattle.np_labels.proofs.value_set.remove_all.Given as goal

-- the listed values so far are out
abbrev pub invariant-loop-value : goal.invariant-loop-value
invariant-loop-value l = (value : List ℕ) → contains (slice_cmp nat_cmp) l.values value ≡ (contains (slice_cmp nat_cmp) l.fn.values value && not (is_listed (take l.value-index l.listed) value))
