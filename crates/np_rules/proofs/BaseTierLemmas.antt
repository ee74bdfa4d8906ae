-- Rules of the baseline. For `base_action` and `rules_for`.
use Rattle.std.proofs.Common.{◌≡◌, List, true, map, Option, Some, refl, ap, ◌∙◌}
use Rattle.std.specs.List.{find}
use Rattle.std.specs.Option.{option_map}
use Rattle.np_rules.specs.Prelude.{Action, AdminRule, BasePolicy, Contact, Direction, PlacedBaseRule, PodEnd, admin_rule_matches, base_places, base_rules_of, subject_selects}
use Rattle.np_rules.proofs.PlacesLemmas.{find-map, map-numbered}

-- the rules of a baseline that selects the pod
pub rules_selected : (policy : BasePolicy) (direction : Direction) (p : PodEnd) → true ≡ subject_selects policy.subject p →
    map (λ placed. placed.rule) (base_places (Some policy) direction p) ≡ base_rules_of direction policy
rules_selected policy direction p selected = rw (← selected) (map-numbered (λ numbered. record { place = numbered.0; rule = numbered.1 }) (λ placed. placed.rule) (λ numbered. refl) 0
    (base_rules_of direction policy))

-- what the first matching rule says is what the rule that decides says
pub action_placed : (rules : List AdminRule) (places : List PlacedBaseRule) (contact : Contact) (found : Option Action) → rules ≡ map (λ placed. placed.rule) places →
    found ≡ option_map (λ rule. rule.action) (find (λ rule. admin_rule_matches rule contact) rules) →
    found ≡ option_map (λ placed. placed.rule.action) (find (λ placed. admin_rule_matches placed.rule contact) places)
action_placed rules places contact found are is =
    is ∙ ap (λ rs. option_map (λ rule. rule.action) (find (λ rule. admin_rule_matches rule contact) rs)) are ∙ find-map (λ placed. placed.rule) (λ rule. admin_rule_matches rule contact)
    (λ rule. rule.action) places
