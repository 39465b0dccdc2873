use Rattle.table_rows.proofs.leased.reaches.Given as goal

-- the ledger of the steps that nobody counts
abbrev pub ghosts-reach_from : goal.ghosts-reach_from
ghosts-reach_from a = record { name = a.blank.name; parts = a.blank.parts }
