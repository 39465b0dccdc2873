use Rattle.std.proofs.Common.{[], ◌∷◌}
use Rattle.turned_shards.specs.BatchEntries.{fault_at}
use Rattle.turned_shards.proofs.shards.Shard.add_fault.Given as goal

abbrev pub ghosts-set_fault : goal.ghosts-set_fault
ghosts-set_fault g a = record { items = fault_at a.m a.base ∷ [] }
