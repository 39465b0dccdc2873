-- The slots that are noted at buckets (our own; for proofs alone).
use Rattle.std.specs.Prelude.{ℕ, List, replicate}
use Rattle.ordered_index.specs.declared.sieves.TheConstants.{BUCKETS}

-- the first slot at each bucket
unfoldable pub no_hints : List ℕ
no_hints = replicate BUCKETS 0
