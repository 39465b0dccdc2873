use Rattle.indexed_store.proofs.leases.Leases.peer_count.Given as goal

-- the ledger of the steps that nobody counts
abbrev pub ghosts-peer_count_from : goal.ghosts-peer_count_from
ghosts-peer_count_from a = record { name = a.blank.name; parts = a.blank.parts }
