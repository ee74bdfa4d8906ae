use Rattle.np_meaning.proofs.PeersMeaning.{addresses-meant, pods-meant}
use Rattle.np_meaning.proofs.policy_laws.peers_mean_their_members.Goals as goal

pub returns-clause-pods : goal.returns-clause-pods
returns-clause-pods c = λ value namespaces pods is. (pods-meant value namespaces pods is).own

pub returns-clause-namespaces : goal.returns-clause-namespaces
returns-clause-namespaces c = λ value namespaces pods is. (pods-meant value namespaces pods is).spaces

pub returns-clause-some_selector : goal.returns-clause-some_selector
returns-clause-some_selector c = λ value namespaces pods is. (pods-meant value namespaces pods is).some

pub returns-clause-no_block : goal.returns-clause-no_block
returns-clause-no_block c = λ value namespaces pods is. (pods-meant value namespaces pods is).no_block

pub returns-clause-block : goal.returns-clause-block
returns-clause-block c = λ value block excepts is. (addresses-meant value block excepts is).is

pub returns-clause-block_alone : goal.returns-clause-block_alone
returns-clause-block_alone c = λ value block excepts is. ((addresses-meant value block excepts is).no_pods, (addresses-meant value block excepts is).no_namespaces)
