-- How many patterns of labels the mentioned requirements may tell apart.
use Rattle.std.specs.Prelude.{◌≡◌, ℕ, ◌+◌, ◌*◌, ◌-◌, ◌^◌, ◌<◌, min, List, [], ◌∷◌, map, filter, flat_map, length, Bool, ◌&&◌}
use Rattle.std.specs.Str.{bytes_eq}
use Rattle.np_exposure.specs.Mentions.{same_side}
use Rattle.np_exposure.specs.declared.exposure_fault.ExposureFault.{ExposureFault}
use Rattle.np_exposure.specs.declared.exposure_fault.ExposureFault.TheVariants.{TooManyPatterns, NoMemory}
use Rattle.np_exposure.specs.declared.exposures.TheConstants.{MOST_PATTERNS}
use Rattle.np_exposure.specs.Types.{Namespace, Pod, Side, SidedRequirement}
use Rattle.np_labels.specs.Prelude.{distinct}

-- the keys that are mentioned on a side, in the order of their bytes, each once
unfoldable pub keys_on : Side → List SidedRequirement → List (List ℕ)
keys_on side all = distinct (map (λ asked. asked.requirement.key) (filter (λ asked. same_side asked.side side) all))

-- whether a requirement looks at the key on the side
abbrev pub looks_at : Side → List ℕ → SidedRequirement → Bool
looks_at side key asked = same_side asked.side side && bytes_eq asked.requirement.key key

-- the values that are mentioned with a side and key, in the order of their bytes, each once
unfoldable pub values_at : Side → List ℕ → List SidedRequirement → List (List ℕ)
values_at side key all = distinct (flat_map (λ asked. asked.requirement.values) (filter (looks_at side key) all))

abbrev pub product : List ℕ → ℕ
product [] = 1
product (n ∷ ns) = n * product ns

-- the mentioned values of a key, one for all others, and one for its absence
abbrev pub patterns_at : Side → List SidedRequirement → List ℕ → ℕ
patterns_at side all key = length (values_at side key all) + 2

abbrev pub patterns_on : Side → List SidedRequirement → ℕ
patterns_on side all = product (map (patterns_at side all) (keys_on side all))

-- the product over all keys of both sides
unfoldable pub weight : List SidedRequirement → ℕ
weight all = patterns_on Namespace all * patterns_on Pod all

-- The fault of a weight: that it is above what is looked at, and so large, as far as a number of 64 bits says it; or memory is
-- wanting.
abbrev pub IsWeightFault : ℕ → ExposureFault → Type 0
IsWeightFault all (TooManyPatterns told) = (MOST_PATTERNS < all) × (told ≡ min all (2 ^ 64 - 1))
IsWeightFault all NoMemory = Unit {0}
