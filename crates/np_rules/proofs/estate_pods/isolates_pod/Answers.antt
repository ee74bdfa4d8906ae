use Rattle.std.proofs.Common.{List, ℕ, ap, filter, ◌∙◌}
use Rattle.std.specs.Str.{bytes_eq}
use Rattle.np_rules.specs.Prelude.{NetPolicy, PodEnd, is_isolated, pod_end}
use Rattle.np_rules.proofs.OwnPolicies.{own-is_isolated}
use Rattle.np_rules.proofs.estate_pods.isolates_pod.Goals as goal

pub returns : goal.returns
returns c =
    let near = pod_end c.args.pod.now in
    c.is_isolated.ensures
    ∙ ap (λ (p : PodEnd). is_isolated c.own_policies-own.result.policies.now c.args.direction p) c.view_of_pod.ensures
    ∙ ap (λ (policies : List NetPolicy). is_isolated policies c.args.direction near)
    (c.own_policies-own.ensures.own ∙ ap (λ (namespace : List ℕ). filter (λ policy. bytes_eq policy.namespace namespace) c.args.policies.now) c.as_str.ensures)
    ∙ own-is_isolated c.args.direction near c.args.policies.now
