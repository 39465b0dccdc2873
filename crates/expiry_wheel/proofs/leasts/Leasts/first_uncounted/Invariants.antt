use Rattle.expiry_wheel.proofs.leasts.Leasts.first_uncounted.Given as goal

-- the ledger of the steps that nobody counts
abbrev pub ghosts-first_blank : goal.ghosts-first_blank
ghosts-first_blank a = record { name = a.blank.name; parts = a.blank.parts }
