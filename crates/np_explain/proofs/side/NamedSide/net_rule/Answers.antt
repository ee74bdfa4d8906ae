use Rattle.std.proofs.Common.{◌<◌, length, ap, ◌∙◌, rules}
use Rattle.std.proofs.lemmas.Result.{IfOk-weaker}
use Rattle.np_explain.proofs.SideLemmas.{keeps, net_at, net_policy_within, net_within}
use Rattle.np_explain.proofs.side.NamedSide.net_rule.Goals as goal
use Rattle.np_explain.specs.Prelude.{EstateLists}
use Rattle.np_rules.specs.Prelude.{PodSide}

pub bounds-items-place : goal.bounds-items-place
bounds-items-place c = net_within (keeps c.self.invariant.names c.self.view_is) c.args.place c.items.result.now c.items.ensures c.requires

pub offset_bounds-items-place : goal.offset_bounds-items-place
offset_bounds-items-place c = let within : c.args.place < length c.items.result.now = net_within
    (keeps c.self.invariant.names c.self.view_is) c.args.place c.items.result.now c.items.ensures c.requires in search rules

pub net_rule_name-requires : goal.net_rule_name-requires
net_rule_name-requires c = net_policy_within (keeps c.self.invariant.names c.self.view_is) c.args.place c.items.result.now _ c.net_policies.result.now c.items.ensures
    (c.net_policies.ensures.value ∙ ap (λ (lists : EstateLists). lists.net_policies) c.estate.ensures ∙ ap (λ (side : PodSide). side.lists.net_policies) c.self.view_is) c.requires

pub returns : goal.returns
returns c =
    IfOk-weaker c.net_rule_name.result _ _
    (λ name named placed is. named placed (net_at (keeps c.self.invariant.names c.self.view_is) c.args.place c.items.result.now _ c.net_policies.result.now c.items.ensures
    (c.net_policies.ensures.value ∙ ap (λ (lists : EstateLists). lists.net_policies) c.estate.ensures ∙ ap (λ (side : PodSide). side.lists.net_policies) c.self.view_is) placed is))
    c.net_rule_name.ensures
