use Rattle.std.proofs.Common.{[]}
use Rattle.shard_book.specs.declared.standings.Standing.TheVariants.{Fresh}
use Rattle.turned_shards.specs.BatchEntries.{entries_by}
use Rattle.turned_shards.proofs.shards.Shard.begin_anew.Given as goal

abbrev pub ghosts-set_anew : goal.ghosts-set_anew
ghosts-set_anew g a = record { items = entries_by a.base [] a.address.now (Fresh a.begins.now) }
