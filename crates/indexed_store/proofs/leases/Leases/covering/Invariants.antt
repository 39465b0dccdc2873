use Rattle.indexed_store.proofs.leases.Leases.covering.Given as goal

-- the ledger of the steps that nobody counts
abbrev pub ghosts-covering_from : goal.ghosts-covering_from
ghosts-covering_from a = record { name = a.blank.name; parts = a.blank.parts }
