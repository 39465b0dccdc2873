use Rattle.lease_core.proofs.cores.LeaseCore.apply.Given as goal

-- the ledger of the steps that nobody counts
abbrev pub ghosts-apply_uncounted : goal.ghosts-apply_uncounted
ghosts-apply_uncounted g a = record { name = a.blank.name; parts = a.blank.parts }
