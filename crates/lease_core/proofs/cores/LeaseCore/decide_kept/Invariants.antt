use Rattle.lease_core.proofs.cores.LeaseCore.decide_kept.Given as goal

-- the ledger of the steps that nobody counts
abbrev pub ghosts-decide_uncounted : goal.ghosts-decide_uncounted
ghosts-decide_uncounted g a = record { name = a.blank.name; parts = a.blank.parts }
