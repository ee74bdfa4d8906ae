use Rattle.np_cli.proofs.in_memory.answer.Given as goal

-- the ledger of the blank that was just made
abbrev pub ghosts-answer_counted : goal.ghosts-answer_counted
ghosts-answer_counted a = record { name = a.blank.name; parts = a.blank.parts }
