use Rattle.index_rows.proofs.wheels.ids_are_moved_and_told.Given as goal

-- the ledger of the test's steps
abbrev pub ghosts-answer_all : goal.ghosts-answer_all
ghosts-answer_all g a = record { name = a.blank.name; parts = a.blank.parts }
