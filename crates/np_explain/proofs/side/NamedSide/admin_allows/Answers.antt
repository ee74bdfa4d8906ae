use Rattle.std.proofs.Common.{◌<◌, length, rules, ap, ◌∙◌}
use Rattle.np_rules.specs.Prelude.{is_allow}
use Rattle.np_explain.proofs.SideLemmas.{action_at, actions_within, keeps}
use Rattle.np_explain.proofs.side.NamedSide.admin_allows.Goals as goal

pub bounds-items-place : goal.bounds-items-place
bounds-items-place c = actions_within (keeps c.self.invariant.names c.self.view_is) c.args.place c.items.result.now c.items.ensures c.requires

pub bounds-items-place-2 : goal.bounds-items-place-2
bounds-items-place-2 c = actions_within (keeps c.self.invariant.names c.self.view_is) c.args.place c.items.result.now c.items.ensures c.requires

pub offset_bounds-items-place : goal.offset_bounds-items-place
offset_bounds-items-place c = let within : c.args.place < length c.items.result.now = actions_within
    (keeps c.self.invariant.names c.self.view_is) c.args.place c.items.result.now c.items.ensures c.requires in search rules

pub returns : goal.returns
returns c = λ placed is. c.is_allow.ensures ∙ ap is_allow (action_at (keeps c.self.invariant.names c.self.view_is) c.args.place c.items.result.now _ c.items.ensures placed is)
