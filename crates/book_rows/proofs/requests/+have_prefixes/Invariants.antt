use Rattle.std.proofs.Common.{length}
use Rattle.book_rows.proofs.requests.+have_prefixes.Given as goal

-- the filters that are left become fewer
abbrev pub decreases-have_prefixes : goal.decreases-have_prefixes
decreases-have_prefixes l = length l.filters.now
