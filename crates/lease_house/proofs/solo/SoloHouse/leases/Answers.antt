use Rattle.std.proofs.Common.{◌≡◌, ◌∙◌, ℕ, max, ap, sym}
use Rattle.std.specs.List.{slice_get}
use Rattle.pcp_base.specs.States.{State}
use Rattle.lease_store.specs.Lookups.{lease_count}
use Rattle.lease_house.specs.SoloHouses.{plain_house}
use Rattle.lease_house.proofs.LookLemmas.{looked}
use Rattle.lease_house.proofs.solo.SoloHouse.leases.Goals as goal

pub returns : goal.returns
returns g c =
    let s = c.core_at-core.result.now.kept.state in
    let raised : c.later.result ≡ max c.args.m s.last = c.later.ensures ∙ ap (λ (n : ℕ). max c.args.m n) c.last.ensures.value in
    c.leases.ensures ∙ sym (looked (λ (t : State) (n : ℕ). lease_count t.table n) 0 (slice_get (plain_house c.args.self.now).shards c.args.shard) s c.args.m c.later.result c.core_at-core.ensures.state raised)
