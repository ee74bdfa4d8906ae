-- What a pod's own side says of a packet.
use Rattle.std.specs.Prelude.{Bool, true, false, Option, if◌then◌else◌}
use Rattle.std.specs.Option.{option_map_or}
use Rattle.np_rules.specs.Types.{Action, Allow, Direction, EstateLists}
use Rattle.np_model.specs.Prelude.{action_says}
use Rattle.np_rules.specs.model.AdminTier.{admin_decider}
use Rattle.np_rules.specs.model.BaseTier.{base_decider}
use Rattle.np_rules.specs.model.Ends.{Contact, PodEnd}
use Rattle.np_rules.specs.model.NetTier.{is_isolated, permits}
use Rattle.np_rules.specs.model.Places.{PlacedAdminRule, PlacedBaseRule}

-- what the admin rule that decides says; without one the tiers below say
abbrev pub admin_says : Option PlacedAdminRule → Bool → Bool
admin_says found below = option_map_or (λ placed. action_says placed.rule.action below) found below

abbrev pub is_allow : Action → Bool
is_allow Allow = true
is_allow other = false

-- what the rule of the baseline that decides says; without one everything is allowed
abbrev pub base_says : Option PlacedBaseRule → Bool
base_says found = option_map_or (λ placed. is_allow placed.rule.action) found true

-- Below the admin tier, NetworkPolicies say at a pod that they isolate, and the baseline at any other.
abbrev pub lower_allows : EstateLists → Direction → PodEnd → Contact → Bool
lower_allows lists direction p contact = if is_isolated lists.net_policies direction p then permits lists.net_policies direction p contact
    else base_says (base_decider lists.baseline direction p contact)

-- whether the pod's side allows what it looks at
unfoldable pub side_allows : EstateLists → Direction → PodEnd → Contact → Bool
side_allows lists direction p contact =
    admin_says (admin_decider lists.admin_policies direction p contact) (lower_allows lists direction p contact)
