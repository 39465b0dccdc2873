use Rattle.table_rows.proofs.stores.first_others.Given as goal

-- the ledger of the steps that nobody counts
abbrev pub ghosts-first_other : goal.ghosts-first_other
ghosts-first_other a = record { name = a.blank.name; parts = a.blank.parts }
