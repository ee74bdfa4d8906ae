-- The walk of a layer at one spot. `at` tells which sets have the spot.
use Rattle.std.specs.Prelude.{Bool, true, if◌then◌else◌, Option, Some, None, find}
use Rattle.std.specs.List.{list_any}
use Rattle.np_model.specs.Prelude.{action_says}
use Rattle.np_tiers.specs.Types.{AdminPart, BasePart, Layer}

-- what the first admin part that has the spot says, and the tiers below without one
abbrev pub admin_allows : {S : Type 0} → Option (AdminPart S) → Bool → Bool
admin_allows None below = below
admin_allows (Some part) below = action_says part.action below

-- what the first base part that has the spot says; without one the spot is allowed
abbrev pub base_allows : {S : Type 0} → Option (BasePart S) → Bool
base_allows None = true
base_allows (Some part) = part.allow

-- Below the admin tier, an isolated layer allows what some `net` set has. In any other the baseline says.
abbrev pub lower_allows : {S : Type 0} → (S → Bool) → Layer S → Bool
lower_allows at layer = if layer.isolated then list_any at layer.net else base_allows (find (λ part. at part.set) layer.base)

-- whether the layer allows the spot
abbrev pub walk_allows : {S : Type 0} → (S → Bool) → Layer S → Bool
walk_allows at layer = admin_allows (find (λ part. at part.set) layer.admin) (lower_allows at layer)
