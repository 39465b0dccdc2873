use Rattle.cascade_ties.proofs.locals.vacant_for.Given as goal

-- the ledger of the steps that nobody counts
abbrev pub ghosts-pick : goal.ghosts-pick
ghosts-pick a = record { name = a.blank.name; parts = a.blank.parts }
