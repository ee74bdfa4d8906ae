-- What decides, as it is printed.
use Rattle.std.specs.Prelude.{ℕ, List, [], ◌++◌, codes, decimal, Option}
use Rattle.std.specs.List.{join_by}
use Rattle.std.specs.Option.{option_map_or}
use Rattle.np_explain.specs.Types.{Admin, Base, Decider, Direction, Free, Isolated, Net, NoSide, RuleName}
use Rattle.np_model.specs.Prelude.{direction_text}
use Rattle.np_rules.specs.Prelude.{verdict_text}

-- `name ingress[n]`, where n is the rule's place from 0
abbrev pub rule_text : Direction → RuleName → List ℕ
rule_text direction rule = rule.policy ++ codes " " ++ direction_text direction ++ codes "[" ++ decimal rule.place ++ codes "]"

-- the rule with Pass that was met first, if one was
abbrev pub pass_text : Direction → Option RuleName → List ℕ
pass_text direction pass = option_map_or (λ rule. codes " after Pass by AdminNetworkPolicy " ++ rule_text direction rule) pass []

unfoldable pub decider_text : Direction → Decider → List ℕ
decider_text direction NoSide = codes "Allow since no pod is at this side"
decider_text direction (Admin rule allow) = verdict_text allow ++ codes " by AdminNetworkPolicy " ++ rule_text direction rule
decider_text direction (Net pass rule) = codes "Allow by NetworkPolicy " ++ rule_text direction rule ++ pass_text direction pass
decider_text direction (Isolated pass policies) = codes "Deny since isolated by NetworkPolicy " ++ join_by (λ name. name) (codes ", ") policies ++ pass_text direction pass
decider_text direction (Base pass rule allow) = verdict_text allow ++ codes " by BaselineAdminNetworkPolicy " ++ rule_text direction rule ++ pass_text direction pass
decider_text direction (Free pass) = codes "Allow by default" ++ pass_text direction pass
