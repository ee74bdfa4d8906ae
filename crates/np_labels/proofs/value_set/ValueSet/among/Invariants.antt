use Rattle.std.proofs.Common.{◌≡◌, List, ℕ, ◌&&◌, take}
use Rattle.std.specs.Ordering.{nat_cmp}
use Rattle.std.specs.Cmp.Lexicographic.{slice_cmp}
use Rattle.std.specs.BTreeSet.{contains}
use Rattle.np_labels.specs.Prelude.{has_value, is_listed}
use Rattle.np_labels.proofs.value_set.ValueSet.among.Given as goal

-- the listed values so far that are in the set are in
abbrev pub invariant-loop-value : goal.invariant-loop-value
invariant-loop-value l = (value : List ℕ) → contains (slice_cmp nat_cmp) l.values value ≡ (has_value l.self value && is_listed (take l.value-index l.listed) value)
