use Rattle.table_rows.proofs.leaving.a_peer_lease_leaves_and_is_forgotten.Given as goal

abbrev pub ghosts-first_other_of_peers : goal.ghosts-first_other_of_peers
ghosts-first_other_of_peers g a = record { name = a.blank.name; parts = a.blank.parts }
