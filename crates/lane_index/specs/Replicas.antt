-- What holds of each copy of an index (our own).
use Rattle.std.specs.Prelude.{◌≡◌, length}
use Rattle.logbook.specs.Pages.{Book}
use Rattle.lane_index.specs.declared.replicas.Replica.{Replica}
use Rattle.lane_index.specs.Histories.{state_left, HasBeginning}
use Rattle.lane_index.specs.LeaseCells.{AreCellsOf}

-- it is a copy of the index with this history, by the beginning that it has seen
pub record IsReplica (book : Book) (r : Replica) : Type 0 where
  pub book_is : r.seen.book ≡ book
  pub counted : r.count ≡ length r.seen.log
  pub begins : HasBeginning r.seen.log
  pub last_is : r.last ≡ (state_left r.seen.log).last
  pub leases : AreCellsOf (state_left r.seen.log).table r.last r.index
