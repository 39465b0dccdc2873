use Rattle.table_rows.proofs.leased.put_run.Given as goal

-- the ledger of the steps that nobody counts
abbrev pub ghosts-put_run_from : goal.ghosts-put_run_from
ghosts-put_run_from a = record { name = a.blank.name; parts = a.blank.parts }
