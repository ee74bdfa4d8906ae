use Rattle.std.proofs.Common.{IfOk, ap, ◌∙◌, subst, refl}
use Rattle.np_addr.specs.Prelude.{family_of}
use Rattle.np_conns.specs.Prelude.{has_spot, is_spot}
use Rattle.np_rules.specs.Prelude.{Contact, IsSideLayer, PortSpot, SaysVerdicts, address, pod, pod_at, with_point}
use Rattle.np_rules.proofs.OneEndLemmas.{same_contacts}
use Rattle.np_rules.proofs.pod_rules.PodRules.point_layer.Goals as goal

pub returns-clause-layer : goal.returns-clause-layer
returns-clause-layer c = subst (λ (at : PortSpot → Contact). IfOk c.layer.result (IsSideLayer has_spot is_spot c.args.self.now (λ _. at)))
    (same_contacts _ c.self.inside.direction _ (pod (pod_at c.self.inside.estate.now c.self.inside.pod)) _ (address c.args.address) (family_of c.args.address)
    (rw c.family_of.ensures at c.between-ends.ensures) (ap pod c.view_at.ensures) refl ∙ ap (with_point c.args.address) c.self.view_is) c.layer.ensures.layer

pub returns-clause-verdict : goal.returns-clause-verdict
returns-clause-verdict c = subst (λ (at : PortSpot → Contact). IfOk c.layer.result (SaysVerdicts has_spot is_spot c.args.self.now (λ _. at)))
    (same_contacts _ c.self.inside.direction _ (pod (pod_at c.self.inside.estate.now c.self.inside.pod)) _ (address c.args.address) (family_of c.args.address)
    (rw c.family_of.ensures at c.between-ends.ensures) (ap pod c.view_at.ensures) refl ∙ ap (with_point c.args.address) c.self.view_is) c.layer.ensures.verdict
