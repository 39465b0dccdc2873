use Rattle.std.proofs.Common.{[], ◌∷◌}
use Rattle.turned_shards.specs.BatchEntries.{loss_at}
use Rattle.turned_shards.proofs.shards.Shard.lose.Given as goal

abbrev pub ghosts-set_loss : goal.ghosts-set_loss
ghosts-set_loss g a = record { items = loss_at a.m a.base ∷ [] }
