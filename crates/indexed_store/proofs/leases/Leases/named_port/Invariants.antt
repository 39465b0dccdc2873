use Rattle.indexed_store.proofs.leases.Leases.named_port.Given as goal

-- the ledger of the steps that nobody counts
abbrev pub ghosts-named_port_from : goal.ghosts-named_port_from
ghosts-named_port_from a = record { name = a.blank.name; parts = a.blank.parts }
