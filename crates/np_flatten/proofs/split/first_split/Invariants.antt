use Rattle.np_flatten.proofs.split.first_split.Given as goal

-- the ledger of the blank that was just made
abbrev pub ghosts-split_in_rows : goal.ghosts-split_in_rows
ghosts-split_in_rows a = record { name = a.blank.name; parts = a.blank.parts }
