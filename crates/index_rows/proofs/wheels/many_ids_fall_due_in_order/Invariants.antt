use Rattle.index_rows.proofs.wheels.many_ids_fall_due_in_order.Given as goal

-- the ledger of the test's steps
abbrev pub ghosts-fill_both : goal.ghosts-fill_both
ghosts-fill_both g a = record { name = a.blank.name; parts = a.blank.parts }
