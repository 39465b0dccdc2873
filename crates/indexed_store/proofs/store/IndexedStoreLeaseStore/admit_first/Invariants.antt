use Rattle.indexed_store.proofs.store.IndexedStoreLeaseStore.admit_first.Given as goal

-- the ledger of the steps that nobody counts
abbrev pub ghosts-take_first : goal.ghosts-take_first
ghosts-take_first a = record { name = a.blank.name; parts = a.blank.parts }
