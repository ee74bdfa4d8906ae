-- Places of services as they are kept by namespace and name.
use Rattle.std.specs.Prelude.{ℕ, ◌≡◌, ◌<◌, List, length, Option, Some, None, slice_get}
use Rattle.std.specs.BTreeMap.{BTreeMap, get_by}
use Rattle.std.specs.Borrow.{Bor}
use Rattle.std.specs.Cmp.Lexicographic.{slice_cmp}
use Rattle.std.specs.Ordering.{nat_cmp, ordering_then}
use Rattle.std.specs.declared.cmp.Ordering.{Ordering}
use Rattle.np_routes.specs.Types.{ServiceItem}
use Rattle.np_routes.specs.Services.{service_named}

-- how a namespace and a name compare to a key: by the namespace, and then by the name
abbrev pub compare_names : List ℕ → List ℕ → Bor (List ℕ) × Bor (List ℕ) → Ordering
compare_names namespace name key = ordering_then (slice_cmp nat_cmp namespace key.0.now) (slice_cmp nat_cmp name key.1.now)

-- the place that is kept under a namespace and a name
abbrev pub place_at : BTreeMap (Bor (List ℕ) × Bor (List ℕ)) ℕ → List ℕ → List ℕ → Option ℕ
place_at places namespace name = get_by (compare_names namespace name) places

-- a place, where there is one, is that of the service that was found, and else none was
abbrev pub IsPlaceOf : List ServiceItem → Option ServiceItem → Option ℕ → Type 0
IsPlaceOf listed found None = found ≡ None
IsPlaceOf listed found (Some place) = (place < length listed) × (found ≡ slice_get listed place)

-- under each namespace and name is kept the place of the service that the list has
abbrev pub HoldsPlaces : List ServiceItem → BTreeMap (Bor (List ℕ) × Bor (List ℕ)) ℕ → Type 0
HoldsPlaces listed places = (namespace name : List ℕ) → IsPlaceOf listed (service_named listed namespace name) (place_at places namespace name)
