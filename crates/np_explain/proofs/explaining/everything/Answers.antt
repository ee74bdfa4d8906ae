use Rattle.np_explain.proofs.WholeLemmas.{whole_is_right}
use Rattle.np_explain.proofs.explaining.everything.Goals as goal
use Rattle.np_explain.specs.Prelude.{NoSide}

pub returns : goal.returns
returns c = rw (c.in_ok-push.ensures.ok, c.new-parts.ensures) (whole_is_right NoSide c.in_ok-conns.conns c.in_ok-conns.ensures.well c.in_ok-conns.ensures.members)
