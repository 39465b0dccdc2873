use Rattle.table_rows.proofs.leaving.a_map_lease_leaves_and_is_forgotten.Given as goal

abbrev pub ghosts-first_other_of_maps : goal.ghosts-first_other_of_maps
ghosts-first_other_of_maps g a = record { name = a.blank.name; parts = a.blank.parts }
