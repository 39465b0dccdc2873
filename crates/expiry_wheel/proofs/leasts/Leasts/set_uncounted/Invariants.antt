use Rattle.expiry_wheel.proofs.leasts.Leasts.set_uncounted.Given as goal

-- the ledger of the steps that nobody counts
abbrev pub ghosts-set_blank : goal.ghosts-set_blank
ghosts-set_blank a = record { name = a.blank.name; parts = a.blank.parts }
