use Rattle.cascade_ties.proofs.rests.next_over.Given as goal

-- the ledger of the steps that nobody counts
abbrev pub ghosts-take_over : goal.ghosts-take_over
ghosts-take_over a = record { name = a.blank.name; parts = a.blank.parts }
