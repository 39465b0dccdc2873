use Rattle.indexed_store.proofs.leases.Leases.has_space.Given as goal

-- the ledger of the steps that nobody counts
abbrev pub ghosts-has_space_from : goal.ghosts-has_space_from
ghosts-has_space_from a = record { name = a.blank.name; parts = a.blank.parts }
