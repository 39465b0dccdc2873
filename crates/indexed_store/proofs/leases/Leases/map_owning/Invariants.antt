use Rattle.indexed_store.proofs.leases.Leases.map_owning.Given as goal

-- the ledger of the steps that nobody counts
abbrev pub ghosts-map_owning_from : goal.ghosts-map_owning_from
ghosts-map_owning_from a = record { name = a.blank.name; parts = a.blank.parts }
