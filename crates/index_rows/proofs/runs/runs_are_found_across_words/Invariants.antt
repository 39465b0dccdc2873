use Rattle.index_rows.proofs.runs.runs_are_found_across_words.Given as goal

abbrev pub ghosts-first_other : goal.ghosts-first_other
ghosts-first_other g a = record { name = a.blank.name; parts = a.blank.parts }
