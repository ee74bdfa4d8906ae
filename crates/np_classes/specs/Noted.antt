-- What is noted on a walk over keys.
use Rattle.std.specs.Prelude.{ℕ, List, Bool, ◌≡◌, Option, Some, map, position, slice_get, length}
use Rattle.std.specs.BTreeMap.{BTreeMap, get}
use Rattle.std.specs.Ordering.{is_eq}
use Rattle.std.specs.declared.cmp.Ordering.{Ordering}
use Rattle.np_classes.specs.Classes.{places, firsts, class_of, keys_tie, of_both}

-- whether the key at a place ties with a key
abbrev pub ties_at : {K : Type 0} → (K → K → Ordering) → List K → K → ℕ → Bool
ties_at compare keys key place = of_both (λ x y. is_eq (compare x y)) (slice_get keys place) (Some key)

-- the number of the class of a key, if a place has one that ties with it
abbrev pub class_by_key : {K : Type 0} → (K → K → Ordering) → List K → K → Option ℕ
class_by_key compare keys key = position (ties_at compare keys key) (firsts (keys_tie compare keys) (length keys))

-- the first places, the numbers of all places and the numbers by keys are those of the classes of the keys
pub record HoldsClasses {K : Type 0} (compare : K → K → Ordering) (keys : List K) (known : BTreeMap K ℕ) (first_places numbers : List ℕ) : Type 0 where
  pub of_firsts : first_places ≡ firsts (keys_tie compare keys) (length keys)
  pub of_places : numbers ≡ map (class_of (keys_tie compare keys) (length keys)) (places (length keys))
  pub of_keys : (key : K) → get compare known key ≡ class_by_key compare keys key
