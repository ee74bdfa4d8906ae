use Rattle.std.proofs.Common.{refl, sym}
use Rattle.std.proofs.lemmas.Bool.{and_parts}
use Rattle.std.specs.Cmp.Lexicographic.{bytes_decides}
use Rattle.np_meaning.proofs.RuleMatches.{net_peer-Decides}
use Rattle.np_meaning.proofs.rule_laws.net_peers_stand_for_pods_or_addresses.Goals as goal

pub returns-clause-peer : goal.returns-clause-peer
returns-clause-peer c = net_peer-Decides

pub returns-clause-namespaces : goal.returns-clause-namespaces
returns-clause-namespaces c = λ namespace namespaces p is. is

pub returns-clause-own : goal.returns-clause-own
returns-clause-own c = λ namespace pods p is. sym ((bytes_decides namespace p.namespace).0 (and_parts _ _ is).0)

pub returns-clause-no_pod : goal.returns-clause-no_pod
returns-clause-no_pod c = λ namespace cidr excepts p. refl

pub returns-clause-no_address : goal.returns-clause-no_address
returns-clause-no_address c = λ namespace namespaces pods a. refl
