use Rattle.std.proofs.Common.{◌<◌, length, ap, ◌∙◌, rules}
use Rattle.std.proofs.lemmas.Result.{IfOk-weaker}
use Rattle.np_explain.proofs.SideLemmas.{admin_at, admin_policy_within, admin_within, keeps}
use Rattle.np_explain.proofs.side.NamedSide.admin_rule.Goals as goal
use Rattle.np_explain.specs.Prelude.{EstateLists}
use Rattle.np_rules.specs.Prelude.{PodSide}

pub bounds-items-place : goal.bounds-items-place
bounds-items-place c = admin_within (keeps c.self.invariant.names c.self.view_is) c.args.place c.items.result.now c.items.ensures c.requires

pub offset_bounds-items-place : goal.offset_bounds-items-place
offset_bounds-items-place c = let within : c.args.place < length c.items.result.now = admin_within
    (keeps c.self.invariant.names c.self.view_is) c.args.place c.items.result.now c.items.ensures c.requires in search rules

pub admin_rule_name-requires : goal.admin_rule_name-requires
admin_rule_name-requires c = admin_policy_within (keeps c.self.invariant.names c.self.view_is) c.args.place c.items.result.now _ c.admin_policies.result.now c.items.ensures
    (c.admin_policies.ensures.value ∙ ap (λ (lists : EstateLists). lists.admin_policies) c.estate.ensures ∙ ap (λ (side : PodSide). side.lists.admin_policies) c.self.view_is) c.requires

pub returns : goal.returns
returns c =
    IfOk-weaker c.admin_rule_name.result _ _
    (λ name named placed is. named placed (admin_at (keeps c.self.invariant.names c.self.view_is) c.args.place c.items.result.now _ c.admin_policies.result.now c.items.ensures
    (c.admin_policies.ensures.value ∙ ap (λ (lists : EstateLists). lists.admin_policies) c.estate.ensures ∙ ap (λ (side : PodSide). side.lists.admin_policies) c.self.view_is) placed is))
    c.admin_rule_name.ensures
