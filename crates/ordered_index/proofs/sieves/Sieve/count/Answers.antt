use Rattle.std.proofs.Common.{◌<◌, ℕ, List, length, slice_index, ap, ◌∙◌, arith}
use Rattle.std.proofs.lemmas.List.{get_or_default}
use Rattle.ordered_index.specs.Sieves.{bucket_of}
use Rattle.ordered_index.proofs.PlaceCounts.{below_buckets}
use Rattle.ordered_index.proofs.sieves.Sieve.count.Goals as goal

pub index-requires : goal.index-requires
index-requires c =
    let below = below_buckets c.args.place.now in
    omega (arith, below, c.bucket-bucket.ensures, c.self.invariant.all)

pub contains-requires : goal.contains-requires
contains-requires c =
    let below = below_buckets c.args.place.now in
    omega (arith, below, c.bucket-bucket.ensures)

pub returns : goal.returns
returns c =
    let counts = c.self.inside.counts.items in
    let below = below_buckets c.args.place.now in
    let within : c.bucket-bucket.result < length counts = omega (arith, below, c.bucket-bucket.ensures, c.self.invariant.all) in
    c.index.ensures ∙ get_or_default counts c.bucket-bucket.result c.index.result.now 0 within ∙ ap (slice_index counts) c.bucket-bucket.ensures
    ∙ ap (λ (xs : List ℕ). slice_index xs (bucket_of c.args.place.now)) c.self.view_is
