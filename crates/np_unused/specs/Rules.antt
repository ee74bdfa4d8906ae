-- The rules of an estate, by their places, and their texts.
use Rattle.std.specs.Prelude.{ℕ, ◌<◌, List, [], ◌++◌, codes, map, length, ◌==◌, unwrap_or, if◌then◌else◌}
use Rattle.std.specs.List.{flat_map, range_with_len, slice_get}
use Rattle.std.specs.Option.{option_map_or}
use Rattle.np_unused.specs.Types.{Admin, Base, Direction, Egress, EstateLists, Ingress, Net, RuleName, RuleRef, Tier}
use Rattle.np_explain.specs.DeciderText as explain
use Rattle.np_rules.specs.Prelude.{admin_rules_of, base_rules_of, net_policy_name, net_rules_of}

-- ---- how many

-- How many rules the policy at a place of its tier has in a direction; the baseline is at the place 0. Rules of a direction that is
-- not among the types of a NetworkPolicy are no rules.
abbrev pub rule_count_at : EstateLists → Tier → Direction → ℕ → ℕ
rule_count_at lists Admin direction place = option_map_or (λ policy. length (admin_rules_of direction policy)) (slice_get lists.admin_policies place) 0
rule_count_at lists Net direction place = option_map_or (λ policy. length (unwrap_or (net_rules_of direction policy) [])) (slice_get lists.net_policies place) 0
rule_count_at lists Base direction place = if place == 0 then option_map_or (λ policy. length (base_rules_of direction policy)) lists.baseline 0 else 0

-- the rule is one of the estate
abbrev pub IsRuleOf : EstateLists → RuleRef → Type 0
IsRuleOf lists rule = rule.place < rule_count_at lists rule.tier rule.direction rule.policy

-- ---- all of them

-- the first rules of a policy in a direction, as many as `count` says, by their places
abbrev pub rules_from : Tier → ℕ → Direction → ℕ → List RuleRef
rules_from tier policy direction count = map (λ place. record { tier = tier; policy = policy; direction = direction; place = place }) (range_with_len 0 count)

-- the rules of a policy: ingress before egress
abbrev pub rules_of_policy : EstateLists → Tier → ℕ → List RuleRef
rules_of_policy lists tier policy = rules_from tier policy Ingress (rule_count_at lists tier Ingress policy) ++ rules_from tier policy Egress (rule_count_at lists tier Egress policy)

abbrev pub policy_count : EstateLists → Tier → ℕ
policy_count lists Admin = length lists.admin_policies
policy_count lists Net = length lists.net_policies
policy_count lists Base = 1

-- the rules of a tier: policy by policy
abbrev pub rules_of_tier : EstateLists → Tier → List RuleRef
rules_of_tier lists tier = flat_map (rules_of_policy lists tier) (range_with_len 0 (policy_count lists tier))

-- all rules: of the admin policies by priority, of the NetworkPolicies by namespace and name, of the baseline
unfoldable pub all_rules : EstateLists → List RuleRef
all_rules lists = rules_of_tier lists Admin ++ rules_of_tier lists Net ++ rules_of_tier lists Base

-- ---- names

-- the name of the policy at a place of its tier
abbrev pub policy_name_at : EstateLists → Tier → ℕ → List ℕ
policy_name_at lists Admin place = option_map_or (λ policy. policy.name) (slice_get lists.admin_policies place) []
policy_name_at lists Net place = option_map_or net_policy_name (slice_get lists.net_policies place) []
policy_name_at lists Base place = codes "default"

-- how deciders name the rule
abbrev pub rule_name : EstateLists → RuleRef → RuleName
rule_name lists rule = record { policy = policy_name_at lists rule.tier rule.policy; place = rule.place }

-- ---- texts

abbrev pub tier_text : Tier → List ℕ
tier_text Admin = codes "AdminNetworkPolicy"
tier_text Net = codes "NetworkPolicy"
tier_text Base = codes "BaselineAdminNetworkPolicy"

-- `AdminNetworkPolicy name ingress[n]`
unfoldable pub tier_rule_text : EstateLists → RuleRef → List ℕ
tier_rule_text lists rule = tier_text rule.tier ++ codes " " ++ explain.rule_text rule.direction (rule_name lists rule)
