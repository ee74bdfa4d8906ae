use Rattle.std.proofs.Common.{refl, sym, ◌∙◌}
use Rattle.std.proofs.lemmas.List.Folds.{flat_map-map}
use Rattle.np_exposure.proofs.MentionLemmas.{mentioned, near-namespace}
use Rattle.np_exposure.specs.Prelude.{of_admin_rule, of_net_rule}
use Rattle.np_rules.specs.Prelude.{side_of}
use Rattle.np_exposure.proofs.mentions.mentions.Goals as goal

pub returns : goal.returns
returns c =
    mentioned (side_of c.args.estate.now c.args.pod c.args.direction) c.in_ok-of.field-0 _ _ _ _ c.in_ok-rules.ensures c.in_ok-of.ensures
    c.as_str.result.now (c.as_str.ensures ∙ near-namespace c.args.estate.now c.args.pod c.args.direction c.pods.result.now c.index-pods-pod.result c.pods.ensures c.requires c.index-pods-pod.is)
    c.add_admin_rules.new.made.items c.add_net_rules.new.made.items _
    ((rw (c.new-made.ensures.items, c.deref.ensures.value) at c.in_ok-add_admin_rules.ensures) ∙ sym (flat_map-map of_admin_rule (λ rule. rule.now) c.in_ok-rules.rules.admin.items))
    ((rw c.deref-2.ensures.value at c.in_ok-add_net_rules.ensures) ∙ rw (flat_map-map (of_net_rule c.as_str.result.now) (λ rule. rule.now) c.in_ok-rules.rules.net.items) refl)
    c.in_ok-add_base_rules.ensures
