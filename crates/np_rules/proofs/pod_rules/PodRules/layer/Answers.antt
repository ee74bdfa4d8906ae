use Rattle.std.proofs.Common.{map, refl, ap, ◌∙◌}
use Rattle.np_rules.specs.Prelude.{PodEnd, PodSide, near_pod}
use Rattle.np_rules.proofs.LayerLemmas.{walk_is_side}
use Rattle.np_rules.proofs.PodSideLemmas.{is_layer-kept}
use Rattle.np_rules.proofs.pod_rules.PodRules.layer.Goals as goal

pub returns-clause-layer : goal.returns-clause-layer
returns-clause-layer g c =
    let rules = c.in_ok-rules.rules in
    is_layer-kept g.S.Cells.has g.S.Cells.in_space (g.F.FarEnds.contact_at c.args.far.now) c.args.self.now
    (map (λ rule. rule.now) rules.admin.items) rules.isolated rules.net.items (λ rule. rule.now) rules.base.now c.view_at-near.result.namespace.now
    (record { admin = c.in_ok-admin.admin; isolated = rules.isolated; net = c.in_ok-net.net; base = c.in_ok-base.base }) c.in_ok-rules.ensures
    (ap (λ (p : PodEnd). p.namespace) c.view_at-near.ensures ∙ ap (λ (side : PodSide). (near_pod side).namespace) c.self.view_is)
    (rw c.deref.ensures.value at c.in_ok-admin.ensures) refl (rw c.deref-2.ensures.value at c.in_ok-net.ensures) c.in_ok-base.ensures

pub returns-clause-verdict : goal.returns-clause-verdict
returns-clause-verdict g c = walk_is_side g.S.Cells.has g.S.Cells.in_space (g.F.FarEnds.contact_at c.args.far.now) c.args.self.now.lists c.args.self.now.direction (near_pod c.args.self.now) _
    c.in_ok-rules.ensures.ascending (returns-clause-layer g c)
