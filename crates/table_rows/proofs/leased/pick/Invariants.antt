use Rattle.table_rows.proofs.leased.pick.Given as goal

-- the ledger of the steps that nobody counts
abbrev pub ghosts-pick_from : goal.ghosts-pick_from
ghosts-pick_from a = record { name = a.blank.name; parts = a.blank.parts }
