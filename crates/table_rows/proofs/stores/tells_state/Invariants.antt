use Rattle.table_rows.proofs.stores.tells_state.Given as goal

-- the ledger of the steps that nobody counts
abbrev pub ghosts-finds_from : goal.ghosts-finds_from
ghosts-finds_from a = record { name = a.blank.name; parts = a.blank.parts }
