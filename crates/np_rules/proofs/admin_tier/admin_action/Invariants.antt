use Rattle.std.proofs.Common.{◌≡◌, take}
use Rattle.std.specs.List.{find}
use Rattle.std.specs.Option.{option_map}
use Rattle.np_rules.specs.Prelude.{admin_places, admin_rule_matches, contact_view, pod_view}
use Rattle.np_rules.proofs.admin_tier.admin_action.Given as goal

-- what the first matching rule of the policies so far says
abbrev pub invariant-loop-policy : goal.invariant-loop-policy
invariant-loop-policy l = l.decided ≡ option_map (λ placed. placed.rule.action)
    (find (λ placed. admin_rule_matches placed.rule (contact_view l.contact)) (admin_places (take l.policy-index l.policies) l.direction (pod_view l.pod)))
