use Rattle.std.proofs.Common.{ap, ◌∙◌}
use Rattle.serde_json.specs.Written.{compact_text, has_float}
use Rattle.np_manifests.specs.Lists.{policy_text}
use Rattle.np_manifests.proofs.FloatLemmas.{has_float-policy}
use Rattle.np_manifests.proofs.policy.print_policy.Goals as goal

pub returns : goal.returns
unfolding policy_text
returns c =
    let is = c.in_ok-policy_value.ensures in
    c.in_ok-to_vec.ensures.text (ap has_float is ∙ has_float-policy c.args.policy.now) ∙ ap compact_text is
