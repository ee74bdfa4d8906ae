use Rattle.np_conns.specs.Prelude.{equal_by_spots}
use Rattle.np_conns.proofs.read.read_conns.Goals as goal

pub returns-then-eq-clause-again : goal.returns-then-eq-clause-again
returns-then-eq-clause-again c = λ conns well printed.
    equal_by_spots c.in_ok-set.set conns c.in_ok-set.ensures.well well (c.in_ok-set.ensures.printed conns well printed)
