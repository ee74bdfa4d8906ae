-- The peers of admin rules.
use Rattle.std.specs.Prelude.{List, [], ◌++◌, Option}
use Rattle.std.specs.List.{flat_map}
use Rattle.std.specs.Option.{option_map_or}
use Rattle.np_model.specs.Types.{AdminPeer, AdminPolicy}
use Rattle.np_model.specs.declared.admin_policy.AdminRule.{AdminRule}
use Rattle.np_model.specs.declared.admin_policy.BasePolicy.{BasePolicy}

-- all rules of the AdminNetworkPolicies and of the baseline, policy by policy, ingress before egress
abbrev pub admin_rules : List AdminPolicy → Option BasePolicy → List AdminRule
admin_rules policies baseline = flat_map (λ policy. policy.ingress ++ policy.egress) policies ++ option_map_or (λ base. base.ingress ++ base.egress) baseline []

-- their peers, rule by rule
abbrev pub admin_peers : List AdminPolicy → Option BasePolicy → List AdminPeer
admin_peers policies baseline = flat_map (λ rule. rule.peers) (admin_rules policies baseline)
