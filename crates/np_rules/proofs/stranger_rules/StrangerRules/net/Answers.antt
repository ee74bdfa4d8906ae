use Rattle.std.proofs.Common.{List, map, subst, sym}
use Rattle.np_rules.specs.Prelude.{IsNetOf, PodSide, RuleConns, side_of}
use Rattle.np_rules.proofs.StrangerLemmas.{net_of_kept}
use Rattle.np_rules.proofs.stranger_rules.StrangerRules.net.Goals as goal

pub returns : goal.returns
returns c =
    let inside = c.self.inside in
    let side = side_of inside.estate.now inside.pod inside.direction in
    subst (λ (kept : List RuleConns). IsNetOf c.args.self.now kept) (sym c.deref.ensures.value)
    (subst (λ (s : PodSide). IsNetOf s inside.net.items) c.self.view_is
    (net_of_kept side (map (λ rule. rule.now) inside.admin.items) inside.isolated inside.net.items inside.base.now c.self.invariant.0 c.self.invariant.1))
