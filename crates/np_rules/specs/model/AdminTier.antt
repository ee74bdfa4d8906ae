-- The tier of AdminNetworkPolicies.
use Rattle.std.specs.Prelude.{List, [], ◌∷◌, filter, Bool, ◌&&◌, ◌||◌, ◌==◌, nat_lt, Option, Some, None, if◌then◌else◌}
use Rattle.np_rules.specs.Types.{AdminPolicy, Direction}
use Rattle.np_rules.specs.model.Ends.{Contact, PodEnd}
use Rattle.np_rules.specs.model.Places.{PlacedAdminRule, admin_places}
use Rattle.np_rules.specs.model.Rules.{admin_rule_matches}

-- the item that no other precedes, and the first of those where there are several
abbrev pub sooner : {X : Type 0} → (X → X → Bool) → X → Option X → X
sooner precedes item None = item
sooner precedes item (Some other) = if precedes other item then other else item

abbrev pub least_by : {X : Type 0} → (X → X → Bool) → List X → Option X
least_by precedes [] = None
least_by precedes (item ∷ items) = Some (sooner precedes item (least_by precedes items))

-- a rule is looked at before another: its policy has a smaller priority, or the same and the rule a smaller place
abbrev pub admin_precedes : PlacedAdminRule → PlacedAdminRule → Bool
admin_precedes a b = nat_lt a.policy.priority b.policy.priority || ((a.policy.priority == b.policy.priority) && nat_lt a.place b.place)

-- the matching rules of the admin policies that select the pod
abbrev pub admin_candidates : List AdminPolicy → Direction → PodEnd → Contact → List PlacedAdminRule
admin_candidates policies direction p contact = filter (λ placed. admin_rule_matches placed.rule contact) (admin_places policies direction p)

-- The rule that decides is the one of them that is looked at first, whatever it says.
abbrev pub admin_decider : List AdminPolicy → Direction → PodEnd → Contact → Option PlacedAdminRule
admin_decider policies direction p contact = least_by admin_precedes (admin_candidates policies direction p contact)
