use Rattle.np_exposure.proofs.PeerLemmas.{peer_text-one}
use Rattle.np_exposure.proofs.laws.one_text_has_one_peer.Goals as goal

pub returns : goal.returns
returns c = peer_text-one
