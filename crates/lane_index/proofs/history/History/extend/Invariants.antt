use Rattle.std.proofs.Common.{[], ◌∷◌}
use Rattle.lane_index.specs.declared.history.HistoryEntry.TheVariants.{Added}
use Rattle.lane_index.proofs.history.History.extend.Given as goal

abbrev pub ghosts-extend_by : goal.ghosts-extend_by
ghosts-extend_by a = record { entries = Added a.kept.now ∷ [] }
