use Rattle.index_rows.proofs.pools.is_picked.Given as goal

-- the ledger of the steps that nobody counts
abbrev pub ghosts-is_picked_from : goal.ghosts-is_picked_from
ghosts-is_picked_from a = record { name = a.blank.name; parts = a.blank.parts }
