use Rattle.table_rows.proofs.maps.a_renewal_keeps_its_place.Given as goal

abbrev pub ghosts-first_other_of_new : goal.ghosts-first_other_of_new
ghosts-first_other_of_new g a = record { name = a.blank.name; parts = a.blank.parts }
