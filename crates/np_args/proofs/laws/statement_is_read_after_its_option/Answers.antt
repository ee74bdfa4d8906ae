use Rattle.np_args.proofs.CheckLemmas.{no_statement, statement_alone, statement_apart, statement_joined, statement_twice}
use Rattle.np_args.proofs.laws.statement_is_read_after_its_option.Goals as goal

pub returns : goal.returns
returns c = record { apart = statement_apart; joined = statement_joined; twice = statement_twice; standard_input = statement_alone; missing = no_statement }
