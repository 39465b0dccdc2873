use Rattle.std.proofs.Common.{◌≡◌, ◌∙◌, ℕ, max, ap, sym}
use Rattle.std.specs.List.{slice_get}
use Rattle.lease_house.specs.SoloHouses.{plain_house}
use Rattle.lease_house.proofs.LookLemmas.{covered-there}
use Rattle.lease_house.proofs.solo.SoloHouse.covered.Goals as goal

pub returns : goal.returns
returns g c =
    let s = c.core_at-core.result.now.kept.state in
    let raised : c.later.result ≡ max c.args.m s.last = c.later.ensures ∙ ap (λ (n : ℕ). max c.args.m n) c.last.ensures.value in
    c.covered.ensures ∙ sym (covered-there c.args.endpoint.now (slice_get (plain_house c.args.self.now).shards c.args.shard) s c.args.m c.later.result c.core_at-core.ensures.state raised)
