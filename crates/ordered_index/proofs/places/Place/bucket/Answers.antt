use Rattle.std.proofs.Common.{ap, ◌∙◌}
use Rattle.ordered_index.specs.Sieves.{bucket_of}
use Rattle.ordered_index.proofs.PlaceCounts.{bucket_of-from}
use Rattle.ordered_index.proofs.places.Place.bucket.Goals as goal

pub returns : goal.returns
returns c =
    bucket_of-from (c.self.inside.address, c.self.inside.port) c.from_be_bytes.result c.from.result c.from-2.result c.from_be_bytes.ensures c.from.ensures c.from-2.ensures
    ∙ ap bucket_of c.self.view_is
