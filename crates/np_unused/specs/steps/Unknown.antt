-- The rules of a side that are not known to be used, by the far ends that they speak of.
use Rattle.std.specs.Prelude.{ℕ, [], Bool, false, ◌&&◌, not, Option, unwrap_or}
use Rattle.std.specs.List.{list_any, slice_get}
use Rattle.std.specs.Option.{option_and_then, option_map_or}
use Rattle.np_unused.specs.Types.{Admin, AdminRule, Base, Direction, EstateLists, Family, LayerRules, Net, NetPolicy, RuleId, Tier, UsedRules}
use Rattle.np_unused.specs.steps.Known.{ids_of, is_known}
use Rattle.np_rules.specs.Prelude.{ModelEnd, admin_rule_reaches, admin_rules_of, base_rules_of, net_rule_reaches, net_rules_of}

-- the rule of a name
abbrev pub admin_rule_at : EstateLists → Direction → RuleId → Option AdminRule
admin_rule_at lists direction id = option_and_then (λ policy. slice_get (admin_rules_of direction policy) id.place) (slice_get lists.admin_policies id.policy)

abbrev pub base_rule_at : EstateLists → Direction → RuleId → Option AdminRule
base_rule_at lists direction id = option_and_then (λ policy. slice_get (base_rules_of direction policy) id.place) lists.baseline

-- whether the rule of a NetworkPolicy at a place speaks of an end, whatever the port is
abbrev pub net_rule_speaks : Direction → ℕ → ModelEnd → NetPolicy → Bool
net_rule_speaks direction place far policy = option_map_or (net_rule_reaches policy.namespace far) (slice_get (unwrap_or (net_rules_of direction policy) []) place) false

-- whether the rule of a name does, in packets of a family
abbrev pub rule_speaks : EstateLists → Direction → Tier → RuleId → ModelEnd → Family → Bool
rule_speaks lists direction Admin id far family = option_map_or (admin_rule_reaches far family) (admin_rule_at lists direction id) false
rule_speaks lists direction Net id far family = option_map_or (net_rule_speaks direction id.place far) (slice_get lists.net_policies id.policy) false
rule_speaks lists direction Base id far family = option_map_or (admin_rule_reaches far family) (base_rule_at lists direction id) false

-- whether some rule of a tier does that is not known to be used
abbrev pub some_unknown_speaks : EstateLists → Direction → UsedRules → LayerRules → Tier → ModelEnd → Family → Bool
some_unknown_speaks lists direction used rules one far family = list_any (λ id. not (is_known used one id.policy id.place) && rule_speaks lists direction one id far family) (ids_of rules one)
