-- The rules of one direction that are known to be used.
use Rattle.std.specs.Prelude.{ℕ, List, Bool, false, ◌&&◌, ◌==◌, Option, Some, None, Vec, unwrap_or}
use Rattle.std.specs.List.{list_all, slice_get}
use Rattle.std.specs.Option.{option_and_then, option_map_or}
use Rattle.std.specs.declared.alloc.Global.{Global}
use Rattle.np_unused.specs.Types.{Flags, LayerRules, Mark, RuleId, Tier, UsedRules}
use Rattle.np_unused.specs.declared.rule_ref.Tier.TheVariants as tier
use Rattle.np_tiers.specs.Prelude.{admin_place}
use Rattle.np_tiers.specs.declared.mark.Mark.TheVariants.{Admin, Net, Isolated, Base, Free}

-- ---- flags

-- whether the flag of a place is set
abbrev pub flag_of : List Bool → ℕ → Bool
flag_of row place = unwrap_or (slice_get row place) false

abbrev pub flag_in : List (Vec Bool Global) → ℕ → ℕ → Bool
flag_in rows policy place = option_map_or (λ row. flag_of row.items place) (slice_get rows policy) false

abbrev pub flag_at : Flags → ℕ → ℕ → Bool
flag_at flags policy place = flag_in flags.rows.items policy place

-- ---- rules

abbrev pub flags_of : UsedRules → Tier → Flags
flags_of used tier.Admin = used.admin
flags_of used tier.Net = used.net
flags_of used tier.Base = used.base

-- whether a rule of a tier is known to be used
unfoldable pub is_known : UsedRules → Tier → ℕ → ℕ → Bool
is_known used one policy place = flag_at (flags_of used one) policy place

-- ---- marks

-- the places of the rules that a mark names, tier by tier
abbrev pub net_place : Mark → Option ℕ
net_place (Admin place) = None
net_place (Net pass place) = Some place
net_place (Isolated pass) = None
net_place (Base pass place) = None
net_place (Free pass) = None

abbrev pub base_place : Mark → Option ℕ
base_place (Admin place) = None
base_place (Net pass place) = None
base_place (Isolated pass) = None
base_place (Base pass place) = Some place
base_place (Free pass) = None

abbrev pub place_in : Tier → Mark → Option ℕ
place_in tier.Admin mark = admin_place mark
place_in tier.Net mark = net_place mark
place_in tier.Base mark = base_place mark

abbrev pub ids_of : LayerRules → Tier → List RuleId
ids_of rules tier.Admin = rules.admin
ids_of rules tier.Net = rules.net
ids_of rules tier.Base = rules.base

-- whether a rule is named by its policy and its place
abbrev pub is_id : ℕ → ℕ → RuleId → Bool
is_id policy place id = policy == id.policy && place == id.place

-- whether the rule stands at a place of a list, if there is a place
abbrev pub is_met : List RuleId → Option ℕ → ℕ → ℕ → Bool
is_met ids met policy place = option_map_or (is_id policy place) (option_and_then (slice_get ids) met) false

-- whether a mark names a rule of a tier
unfoldable pub marks : LayerRules → Tier → ℕ → ℕ → Mark → Bool
marks rules one policy place mark = is_met (ids_of rules one) (place_in one mark) policy place

-- ---- all rules of a side

abbrev pub are_known : Flags → List RuleId → Bool
are_known flags ids = list_all (λ id. flag_at flags id.policy id.place) ids

unfoldable pub all_known : UsedRules → LayerRules → Bool
all_known used rules = are_known used.admin rules.admin && are_known used.net rules.net && are_known used.base rules.base
