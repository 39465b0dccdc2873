use Rattle.table_rows.proofs.leased.free_run.Given as goal

-- the ledger of the steps that nobody counts
abbrev pub ghosts-free_run_from : goal.ghosts-free_run_from
ghosts-free_run_from a = record { name = a.blank.name; parts = a.blank.parts }
