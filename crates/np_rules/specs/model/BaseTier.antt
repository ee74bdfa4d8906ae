-- The baseline.
use Rattle.std.specs.Prelude.{Option, find}
use Rattle.np_rules.specs.Types.{BasePolicy, Direction}
use Rattle.np_rules.specs.model.Ends.{Contact, PodEnd}
use Rattle.np_rules.specs.model.Places.{PlacedBaseRule, base_places}
use Rattle.np_rules.specs.model.Rules.{admin_rule_matches}

-- The rule that decides is the first that matches, of a baseline that selects the pod.
abbrev pub base_decider : Option BasePolicy → Direction → PodEnd → Contact → Option PlacedBaseRule
base_decider baseline direction p contact = find (λ placed. admin_rule_matches placed.rule contact) (base_places baseline direction p)
