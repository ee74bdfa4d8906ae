use Rattle.std.proofs.Common.{◌≡◌, List, ℕ, Option, take}
use Rattle.std.specs.Ordering.{nat_cmp}
use Rattle.std.specs.Cmp.Lexicographic.{slice_cmp}
use Rattle.std.specs.BTreeMap.{get}
use Rattle.np_labels.specs.Prelude.{admits_unless_free, allowed_at}
use Rattle.np_labels.proofs.possibility.demands_of.Given as goal

-- the demands are those of the requirements so far
abbrev pub invariant-loop-requirement : goal.invariant-loop-requirement
invariant-loop-requirement l = (key : List ℕ) (found : Option (List ℕ)) → admits_unless_free (get (slice_cmp nat_cmp) l.made key) found ≡ allowed_at (take l.requirement-index l.all) key found
