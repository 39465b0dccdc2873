use Rattle.indexed_store.proofs.store.IndexedStoreLeaseStore.admit.Given as goal

-- the ledger of the steps that nobody counts
abbrev pub ghosts-take_uncounted : goal.ghosts-take_uncounted
ghosts-take_uncounted a = record { name = a.blank.name; parts = a.blank.parts }
