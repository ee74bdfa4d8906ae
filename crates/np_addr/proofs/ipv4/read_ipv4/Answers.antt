use Rattle.std.proofs.Common.{sym, ◌∙◌}
use Rattle.np_addr.specs.Prelude.{ipv4_of}
use Rattle.np_addr.proofs.Ipv4Lemmas.{dotted_of-last}
use Rattle.np_addr.proofs.ipv4.read_ipv4.Goals as goal

pub returns : goal.returns
unfolding ipv4_of
returns c =
    rw (c.in_ok-first.ensures.cut, c.in_ok-second.ensures.cut, c.in_ok-third.ensures.cut)
    (c.read_parts.ensures ∙ sym (dotted_of-last _ _ _ c.in_ok-third.fourth.now))
