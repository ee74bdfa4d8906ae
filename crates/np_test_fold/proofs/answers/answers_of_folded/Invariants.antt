use Rattle.np_test_fold.proofs.answers.answers_of_folded.Given as goal

-- the ledger of the blank that was just made
abbrev pub ghosts-expect_row_count : goal.ghosts-expect_row_count
ghosts-expect_row_count _ a = record { name = a.blank.name; parts = a.blank.parts }
