use Rattle.std.proofs.Common.{ℕ, List, [], Bor, Option, Vec, ap, ◌∙◌}
use Rattle.std.specs.List.{list_any}
use Rattle.std.specs.Option.{option_map_or}
use Rattle.std.specs.declared.alloc.Global.{Global}
use Rattle.np_routes.specs.Prelude.{EstateLists, ServiceTargets, leads_to, routes_in, target_leads, targets_in}
use Rattle.np_routes.proofs.backends.Backends.near.Goals as goal
use Rattle.np_rules.specs.Prelude.{pod_end}

pub returns-in_err-targets : goal.returns-in_err-targets
returns-in_err-targets c number =
    let p = pod_end c.args.pod.now in
    ap (λ (found : Option (Bor (List ServiceTargets))). list_any (target_leads p number) (option_map_or (λ own. own.now) found [])) c.from_residual.ensures
    ∙ ap (λ (found : Option (Vec ServiceTargets Global)). list_any (target_leads p number) (option_map_or (λ kept. kept.items) found [])) c.in_err-targets.ensures.value
    ∙ ap (λ (text : List ℕ). list_any (target_leads p number) (targets_in c.self.inside.by_namespace text)) c.as_str.ensures
    ∙ c.self.invariant p number
    ∙ ap (λ (lists : EstateLists). list_any (leads_to p number) (routes_in lists p.namespace)) c.self.view_is

pub returns : goal.returns
returns c number =
    let p = pod_end c.args.pod.now in
    ap (list_any (target_leads p number)) c.as_slice.ensures.value
    ∙ ap (λ (found : Option (Vec ServiceTargets Global)). list_any (target_leads p number) (option_map_or (λ kept. kept.items) found [])) c.in_ok-targets.ensures.value
    ∙ ap (λ (text : List ℕ). list_any (target_leads p number) (targets_in c.self.inside.by_namespace text)) c.as_str.ensures
    ∙ c.self.invariant p number
    ∙ ap (λ (lists : EstateLists). list_any (leads_to p number) (routes_in lists p.namespace)) c.self.view_is
