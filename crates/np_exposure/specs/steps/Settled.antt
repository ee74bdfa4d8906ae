-- What the choices that are left settle of the rules of NetworkPolicies.
use Rattle.std.specs.Prelude.{◌≡◌, ℕ, List, Bool, true, ◌||◌, Option, IfSome}
use Rattle.std.specs.List.{list_any}
use Rattle.np_conns.specs.Prelude.{has_spot, is_spot}
use Rattle.np_exposure.specs.Types.{PortSpot, Stranger}
use Rattle.np_exposure.specs.steps.Types.{OpenRule, OpenRules}
use Rattle.np_exposure.specs.Choices.{Choices}
use Rattle.np_exposure.specs.steps.States.{IsWitness}
use Rattle.np_rules.specs.Prelude.{PodSide, kept_matches, near_pod, permits_stranger, pod, stranger_end}

-- ---- answers that may not be known

-- the answer, if it is known, is the right one
abbrev pub IsRight : Bool → Option Bool → Type 0
IsRight right answer = IfSome answer (λ known. known ≡ right)

-- the answer, if it is known, is right for each hypothetical pod with labels among the choices
abbrev pub IsSettled : List Choices → (Stranger → Bool) → Option Bool → Type 0
IsSettled state asks answer = (s : Stranger) → IsWitness state s → IsRight (asks s) answer

-- ---- rules, as far as they are settled

-- whether an open rule of this namespace matches a stranger at a spot
abbrev pub rule_matches : List ℕ → Stranger → PortSpot → OpenRule → Bool
rule_matches namespace s spot rule = kept_matches namespace (pod (stranger_end s)) spot rule.kept.now

-- whether the settled set has the spot, or some open rule of this namespace matches the stranger there
abbrev pub permits : List ℕ → OpenRules → Stranger → PortSpot → Bool
permits namespace rules s spot = has_spot rules.settled spot || list_any (rule_matches namespace s spot) rules.open.items

-- they permit the stranger what NetworkPolicies permit it
abbrev pub StandFor : PodSide → OpenRules → Stranger → Type 0
StandFor side rules s = (spot : PortSpot) → is_spot spot ≡ true → permits (near_pod side).namespace rules s spot ≡ permits_stranger side s spot

-- the same of each hypothetical pod with labels among the choices
abbrev pub StandForAll : PodSide → List Choices → OpenRules → Type 0
StandForAll side state rules = (s : Stranger) → IsWitness state s → StandFor side rules s
