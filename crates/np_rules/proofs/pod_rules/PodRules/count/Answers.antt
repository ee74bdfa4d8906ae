use Rattle.std.proofs.Common.{◌==◌, arith, length, not, refl}
use Rattle.std.specs.List.{flat_map}
use Rattle.np_rules.specs.Prelude.{AdminRule, NetRule, PolicyRules}
use Rattle.np_rules.proofs.PodSideLemmas.{kept_count}
use Rattle.np_rules.proofs.PolicyRulesLemmas.{keeps_as, keeps_rules}
use Rattle.np_rules.proofs.pod_rules.PodRules.count.Goals as goal

pub returns : goal.returns
returns g c =
    let inside = c.self.inside in
    let admin = flat_map (λ (policy : PolicyRules AdminRule). policy.rules.now) inside.admin.items in
    let net = flat_map (λ (policy : PolicyRules NetRule). policy.rules.now) inside.net.items in
    let isolated = not (length inside.net.items == 0) in
    omega (
      arith,
      kept_count c.args.self.now admin isolated net inside.base.now (keeps_rules (keeps_as c.self.invariant c.self.view_is) admin isolated net refl refl refl),
      rw c.deref.ensures.value at c.count_rules.ensures,
      rw c.deref-2.ensures.value at c.count_rules-2.ensures,
      c.add.ensures,
    )
