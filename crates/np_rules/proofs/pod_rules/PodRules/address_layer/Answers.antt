use Rattle.std.proofs.Common.{IfOk, ap, ◌∙◌, subst}
use Rattle.np_rules.specs.Prelude.{AddressSpot, Contact, IsSideLayer, SaysVerdicts, address_contact, has_address_spot, is_address_spot, pod, with_addresses}
use Rattle.np_rules.proofs.pod_rules.PodRules.address_layer.Goals as goal

pub returns-clause-layer : goal.returns-clause-layer
returns-clause-layer c = subst (λ (at : AddressSpot → Contact). IfOk c.layer.result (IsSideLayer has_address_spot is_address_spot c.args.self.now (λ _. at)))
    (ap (λ p. address_contact c.self.inside.direction (pod p)) c.view_at.ensures ∙ ap with_addresses c.self.view_is) c.layer.ensures.layer

pub returns-clause-verdict : goal.returns-clause-verdict
returns-clause-verdict c = subst (λ (at : AddressSpot → Contact). IfOk c.layer.result (SaysVerdicts has_address_spot is_address_spot c.args.self.now (λ _. at)))
    (ap (λ p. address_contact c.self.inside.direction (pod p)) c.view_at.ensures ∙ ap with_addresses c.self.view_is) c.layer.ensures.verdict
