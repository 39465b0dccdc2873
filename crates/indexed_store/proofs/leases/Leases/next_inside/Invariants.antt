use Rattle.indexed_store.proofs.leases.Leases.next_inside.Given as goal

-- the ledger of the steps that nobody counts
abbrev pub ghosts-next_inside_from : goal.ghosts-next_inside_from
ghosts-next_inside_from a = record { name = a.blank.name; parts = a.blank.parts }
