use Rattle.np.proofs.run_on_system.Given as goal

-- the ledger of the blank that was just made
abbrev pub ghosts-run_counted : goal.ghosts-run_counted
ghosts-run_counted a = record { name = a.blank.name; parts = a.blank.parts }
