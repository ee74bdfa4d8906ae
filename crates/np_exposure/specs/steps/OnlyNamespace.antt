-- Peers that speak of one namespace by its name.
use Rattle.std.specs.Prelude.{◌≡◌, ℕ, List, true}
use Rattle.np_exposure.specs.Types.{NetPeer, Stranger}
use Rattle.np_rules.specs.Prelude.{net_peer_matches, none_or_any, pod, stranger_end}

-- each stranger that the peers of a rule match, of whatever namespace that is, is of the namespace of this name
abbrev pub AreOfNamespace : List ℕ → List NetPeer → Type 0
AreOfNamespace name peers = (namespace : List ℕ) (s : Stranger) → none_or_any (λ peer. net_peer_matches namespace peer (pod (stranger_end s))) peers ≡ true → (stranger_end s).namespace ≡ name
