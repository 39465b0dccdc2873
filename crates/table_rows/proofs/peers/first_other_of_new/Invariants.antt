use Rattle.table_rows.proofs.peers.first_other_of_new.Given as goal

-- the ledger of the steps that nobody counts
abbrev pub ghosts-first_other_from : goal.ghosts-first_other_from
ghosts-first_other_from a = record { name = a.blank.name; parts = a.blank.parts }
