use Rattle.step_count.proofs.tests.counts.Given as goal

abbrev pub ghosts-count_six : goal.ghosts-count_six
ghosts-count_six a = record { name = a.blank.name; parts = a.blank.parts }
