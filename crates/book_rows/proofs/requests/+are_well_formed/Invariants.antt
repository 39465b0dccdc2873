use Rattle.std.proofs.Common.{length}
use Rattle.book_rows.proofs.requests.+are_well_formed.Given as goal

-- the requests that are left become fewer
abbrev pub decreases-are_well_formed : goal.decreases-are_well_formed
decreases-are_well_formed l = length l.asks.now
