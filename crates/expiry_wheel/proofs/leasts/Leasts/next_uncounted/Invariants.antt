use Rattle.expiry_wheel.proofs.leasts.Leasts.next_uncounted.Given as goal

-- the ledger of the steps that nobody counts
abbrev pub ghosts-next_blank : goal.ghosts-next_blank
ghosts-next_blank a = record { name = a.blank.name; parts = a.blank.parts }
