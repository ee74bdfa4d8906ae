use Rattle.std.proofs.Common.{◌&&◌, Bool, ap}
use Rattle.np_rules.specs.Prelude.{net_selects}
use Rattle.np_meaning.proofs.TypesMeaning.{types-meant}
use Rattle.np_meaning.proofs.rule_laws.network_policies_isolate_by_their_types.Goals as goal

pub returns-clause-ingress : goal.returns-clause-ingress
returns-clause-ingress c = λ value read p is. ap (λ (has : Bool). net_selects read p && has) (types-meant value read is).ingress

pub returns-clause-egress : goal.returns-clause-egress
returns-clause-egress c = λ value read p is. ap (λ (has : Bool). net_selects read p && has) (types-meant value read is).egress
