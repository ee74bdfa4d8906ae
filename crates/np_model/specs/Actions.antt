-- What the action of an admin rule says.
use Rattle.std.specs.Prelude.{Bool, true, false}
use Rattle.np_model.specs.declared.admin_policy.Action.{Action}
use Rattle.np_model.specs.declared.admin_policy.Action.TheVariants.{Allow, Deny, Pass}

-- what an admin rule says, where the tiers below say `below`
abbrev pub action_says : Action → Bool → Bool
action_says Allow below = true
action_says Deny below = false
action_says Pass below = below
