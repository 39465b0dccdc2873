use Rattle.indexed_store.proofs.leases.Leases.peering.Given as goal

-- the ledger of the steps that nobody counts
abbrev pub ghosts-peering_from : goal.ghosts-peering_from
ghosts-peering_from a = record { name = a.blank.name; parts = a.blank.parts }
