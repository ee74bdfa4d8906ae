-- What decides a spot on the walk of a layer. `at` tells which sets have the spot. Places count from 0.
use Rattle.std.specs.Prelude.{Bool, true, false, ℕ, Option, Some, None, if◌then◌else◌, List, map, filter, find}
use Rattle.std.specs.List.{slice_get, position_from, enumerate_from}
use Rattle.std.specs.Option.{option_map_or}
use Rattle.np_model.specs.Prelude.{action_says}
use Rattle.np_tiers.specs.Types.{Action, Admin, AdminPart, Allow, Base, Deny, Free, Isolated, Layer, Mark, Marked, Net, Pass}

-- what decides by the place of the first `net` set that has the spot
abbrev pub net_mark : Option ℕ → Option ℕ → Mark
net_mark pass None = Isolated pass
net_mark pass (Some place) = Net pass place

-- what decides by the place of the first base part that has the spot
abbrev pub base_mark : Option ℕ → Option ℕ → Mark
base_mark pass None = Free pass
base_mark pass (Some place) = Base pass place

-- what decides below the admin tier, where `pass` is the place of the `Pass` part that was met, if one was
abbrev pub lower_mark : {S : Type 0} → (S → Bool) → Layer S → Option ℕ → Mark
lower_mark at layer pass = if layer.isolated then net_mark pass (position_from at 0 layer.net) else base_mark pass (position_from (λ part. at part.set) 0 layer.base)

-- the part at `place` decides, except that `Pass` hands down to `lower`
abbrev pub action_mark : Action → ℕ → (Option ℕ → Mark) → Mark
action_mark Allow place lower = Admin place
action_mark Deny place lower = Admin place
action_mark Pass place lower = lower (Some place)

-- what decides by the first admin part that has the spot, beside its place
abbrev pub admin_mark : {S : Type 0} → Option (ℕ × AdminPart S) → (Option ℕ → Mark) → Mark
admin_mark None lower = lower None
admin_mark (Some numbered) lower = action_mark numbered.1.action numbered.0 lower

-- what decides the spot
abbrev pub mark_of : {S : Type 0} → (S → Bool) → Layer S → Mark
mark_of at layer = admin_mark (find (λ numbered. at numbered.1.set) (enumerate_from 0 layer.admin)) (lower_mark at layer)

-- Whether the layer allows what the mark decides. An admin part with `Pass` decides nothing.
abbrev pub mark_allows : {S : Type 0} → Layer S → Mark → Bool
mark_allows layer (Admin place) = option_map_or (λ part. action_says part.action false) (slice_get layer.admin place) false
mark_allows layer (Net pass place) = true
mark_allows layer (Isolated pass) = false
mark_allows layer (Base pass place) = option_map_or (λ part. part.allow) (slice_get layer.base place) false
mark_allows layer (Free pass) = true

-- the marks of the entries that have the spot
abbrev pub marks_at : {S : Type 0} → (S → Bool) → List (Marked S) → List Mark
marks_at at entries = map (λ entry. entry.mark) (filter (λ entry. at entry.set) entries)
