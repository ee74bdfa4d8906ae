use Rattle.np_meaning.proofs.TypesMeaning.{types-meant}
use Rattle.np_meaning.proofs.policy_laws.policy_types_mean_their_members.Goals as goal

pub returns-clause-ingress : goal.returns-clause-ingress
returns-clause-ingress c = λ value read is. (types-meant value read is).ingress

pub returns-clause-egress : goal.returns-clause-egress
returns-clause-egress c = λ value read is. (types-meant value read is).egress

pub returns-clause-ingress_rules : goal.returns-clause-ingress_rules
returns-clause-ingress_rules c = λ value read is. (types-meant value read is).ingress_rules

pub returns-clause-egress_rules : goal.returns-clause-egress_rules
returns-clause-egress_rules c = λ value read is. (types-meant value read is).egress_rules
