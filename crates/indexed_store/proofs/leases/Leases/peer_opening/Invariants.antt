use Rattle.indexed_store.proofs.leases.Leases.peer_opening.Given as goal

-- the ledger of the steps that nobody counts
abbrev pub ghosts-peer_opening_from : goal.ghosts-peer_opening_from
ghosts-peer_opening_from a = record { name = a.blank.name; parts = a.blank.parts }
