use Rattle.table_rows.proofs.maps.leases_are_found_by_all_their_ports.Given as goal

abbrev pub ghosts-first_other_of_new : goal.ghosts-first_other_of_new
ghosts-first_other_of_new g a = record { name = a.blank.name; parts = a.blank.parts }
