use Rattle.std.proofs.Common.{List, ◌≡◌, ◌∷◌, ◌++◌, [], ap, filter, map, refl, subst, sym, ◌∙◌}
use Rattle.np_rules.specs.Prelude.{AdminRule, ArePermitted, Four, Layer, ModelEnd, PodSide, SaysVerdicts, admin_rule_reaches, near_pod, one_contact, pod, rule_of, side_of, stranger_end, with_stranger}
use Rattle.np_conns.specs.Prelude.{Conns, has_spot, is_spot}
use Rattle.np_rules.proofs.OneEndLemmas.{same_contacts}
use Rattle.np_rules.proofs.StrangerLemmas.{says_of_stranger}
use Rattle.np_rules.proofs.stranger_rules.StrangerRules.layer.Goals as goal

pub returns : goal.returns
returns c =
    let inside = c.self.inside in
    let side = side_of inside.estate.now inside.pod inside.direction in
    let made : Layer Conns = record { admin = c.in_ok-admin.admin; isolated = inside.isolated; net = c.push.new.self; base = c.in_ok-base.base } in
    let admin : List AdminRule = map (λ rule. rule.now) inside.admin.items in
    let toward : List AdminRule = map (λ rule. rule.now) c.in_ok-toward.toward.items in
    record {
      verdict = subst (λ (s : PodSide). SaysVerdicts has_spot is_spot s (with_stranger c.args.stranger.now) made) c.self.view_is
          (says_of_stranger side c.args.stranger.now admin inside.isolated (map rule_of inside.net.items) inside.base.now toward
          (one_contact c.between-ends.result) c.args.net made
          (same_contacts _ inside.direction _ (pod (near_pod side)) _ (pod (stranger_end c.args.stranger.now)) Four c.between-ends.ensures (ap pod c.view_at.ensures) (ap pod c.view_of_stranger.ensures))
          c.self.invariant.0
          (subst (λ (far : ModelEnd). toward ≡ filter (admin_rule_reaches far Four) admin) (ap pod c.view_of_stranger.ensures) (rw c.deref.ensures.value at c.in_ok-toward.ensures))
          (subst (λ (s : PodSide). ArePermitted s c.args.stranger.now c.args.net) (sym c.self.view_is) c.requires) (rw c.deref-2.ensures.value at c.in_ok-admin.ensures) refl
          (c.in_ok-push.ensures.ok ∙ ap (λ (sets : List Conns). sets ++ c.args.net ∷ []) c.new-sets.ensures) c.in_ok-base.ensures);
    }
