use Rattle.index_rows.proofs.wheels.the_first_from_an_id_is_found.Given as goal

-- the ledger of the test's steps
abbrev pub ghosts-answer_all : goal.ghosts-answer_all
ghosts-answer_all g a = record { name = a.blank.name; parts = a.blank.parts }
