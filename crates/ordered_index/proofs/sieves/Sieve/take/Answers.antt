use Rattle.std.proofs.Common.{arith}
use Rattle.ordered_index.proofs.PlaceCounts.{below_buckets}
use Rattle.ordered_index.proofs.sieves.Sieve.take.Goals as goal

pub index-count-requires : goal.index-count-requires
index-count-requires c =
    let below = below_buckets c.args.place.now in
    omega (arith, below, c.bucket-bucket.ensures, c.self.invariant.all)

pub index_mut-requires : goal.index_mut-requires
index_mut-requires c =
    let below = below_buckets c.args.place.now in
    omega (arith, below, c.bucket-bucket.ensures, c.self.invariant.all)

pub set-requires : goal.set-requires
set-requires c =
    let below = below_buckets c.args.place.now in
    omega (arith, below, c.bucket-bucket.ensures)
