use Rattle.np_kinds.specs.Prelude.{Egress, Ingress}
use Rattle.np_kinds.proofs.ReachLemmas.{reach-nothing}
use Rattle.np_kinds.proofs.kind_reach.KindReach.nothing.Goals as goal

pub returns : goal.returns
returns c = λ lists. rw (c.nothing.ensures, c.nothing-2.ensures) (record { sent = reach-nothing lists Egress; received = reach-nothing lists Ingress })
