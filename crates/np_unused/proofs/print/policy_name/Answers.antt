use Rattle.std.proofs.Common.{[], ◌∷◌, append_assoc, sym, ◌∙◌}
use Rattle.np_unused.proofs.PrintLemmas.{net_name, net_within}
use Rattle.np_unused.proofs.print.policy_name.Goals as goal

pub returns-in_ok-format-in-Net : goal.returns-in_ok-format-in-Net
returns-in_ok-format-in-Net c =
    net_name c.args.estate.now c.args.rule.now.tier c.args.rule.now.policy c.net_policies.result.now c.index-net_policies-place.result c.from_string.result c.in-Net.is c.net_policies.ensures.value
    (net_within c.args.estate.now c.args.rule.now c.net_policies.result.now c.in-Net.is c.net_policies.ensures.value c.requires) c.index-net_policies-place.is
    (c.from_string.ensures ∙ c.in_ok-format-in-Net.ensures.ok ∙ sym (append_assoc c.index-net_policies-place.result.namespace (47 ∷ []) c.index-net_policies-place.result.name))
