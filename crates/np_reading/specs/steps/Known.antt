-- The labels of namespaces that are known already.
use Rattle.std.specs.Prelude.{◌≡◌, ℕ, List, Some}
use Rattle.std.specs.BTreeMap.{BTreeMap, get}
use Rattle.std.specs.Cmp.Lexicographic.{slice_cmp}
use Rattle.std.specs.Ordering.{nat_cmp}
use Rattle.np_reading.specs.Namespaces.{namespace_labels}
use Rattle.np_reading.specs.Types.{Item, Pair}

-- what is known of a namespace are its labels
abbrev pub KnowsLabels : List Item → BTreeMap (List ℕ) (List Pair) → Type 0
KnowsLabels items known = (name : List ℕ) (labels : List Pair) → get (slice_cmp nat_cmp) known name ≡ Some labels → labels ≡ namespace_labels items name
