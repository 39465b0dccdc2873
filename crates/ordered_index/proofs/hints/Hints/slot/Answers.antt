use Rattle.std.proofs.Common.{◌<◌, ℕ, List, length, slice_index, ap, ◌∙◌, arith}
use Rattle.std.proofs.lemmas.List.{get_or_default}
use Rattle.ordered_index.specs.Sieves.{bucket_of}
use Rattle.ordered_index.proofs.PlaceCounts.{below_buckets}
use Rattle.ordered_index.proofs.hints.Hints.slot.Goals as goal

pub index-requires : goal.index-requires
index-requires c =
    let below = below_buckets c.args.place.now in
    omega (arith, below, c.bucket.ensures, c.self.invariant)

pub returns : goal.returns
returns c =
    let slots = c.self.inside.slots.items in
    let below = below_buckets c.args.place.now in
    let within : c.bucket.result < length slots = omega (arith, below, c.bucket.ensures, c.self.invariant) in
    c.from.ensures ∙ c.index.ensures ∙ get_or_default slots c.bucket.result c.index.result.now 0 within ∙ ap (slice_index slots) c.bucket.ensures
    ∙ ap (λ (xs : List ℕ). slice_index xs (bucket_of c.args.place.now)) c.self.view_is
