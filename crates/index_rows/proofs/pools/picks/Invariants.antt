use Rattle.index_rows.proofs.pools.picks.Given as goal

-- the ledger of the steps that nobody counts
abbrev pub ghosts-picks_from : goal.ghosts-picks_from
ghosts-picks_from a = record { name = a.blank.name; parts = a.blank.parts }
