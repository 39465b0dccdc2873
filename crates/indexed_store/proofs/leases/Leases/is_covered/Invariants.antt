use Rattle.indexed_store.proofs.leases.Leases.is_covered.Given as goal

-- the ledger of the steps that nobody counts
abbrev pub ghosts-is_covered_from : goal.ghosts-is_covered_from
ghosts-is_covered_from a = record { name = a.blank.name; parts = a.blank.parts }
