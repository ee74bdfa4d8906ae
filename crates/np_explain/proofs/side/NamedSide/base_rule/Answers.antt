use Rattle.std.proofs.Common.{◌<◌, length, rules}
use Rattle.np_explain.proofs.SideLemmas.{base_at, base_name, base_within, keeps}
use Rattle.np_explain.proofs.side.NamedSide.base_rule.Goals as goal

pub bounds-items-place : goal.bounds-items-place
bounds-items-place c = base_within (keeps c.self.invariant.names c.self.view_is) c.args.place c.items.result.now c.items.ensures c.requires

pub offset_bounds-items-place : goal.offset_bounds-items-place
offset_bounds-items-place c = let within : c.args.place < length c.items.result.now = base_within
    (keeps c.self.invariant.names c.self.view_is) c.args.place c.items.result.now c.items.ensures c.requires in search rules

pub returns : goal.returns
returns c = λ placed is. base_name c.in_ok-policy.policy _ placed c.in_ok-policy.ensures
    (base_at (keeps c.self.invariant.names c.self.view_is) c.args.place c.items.result.now _ c.items.ensures placed is)
