use Rattle.np_statements.proofs.checking.counterexample_of.Goals as goal

pub returns-clause-counterexample : goal.returns-clause-counterexample
returns-clause-counterexample c = rw c.new-statement.ensures at c.check.ensures.counterexample
