use Rattle.std.proofs.Common.{◌≡◌, ◌∙◌, ℕ, List, [], max, Vec, Global, ap, sym, subst}
use Rattle.std.specs.Prelude.{IfOk}
use Rattle.std.specs.List.{slice_get}
use Rattle.pcp_base.specs.declared.leases.Owner.{Owner}
use Rattle.pcp_base.specs.States.{State}
use Rattle.lease_store.specs.OwnerOrder.{owners_in_order}
use Rattle.lease_house.specs.SoloHouses.{plain_house}
use Rattle.lease_house.proofs.LookLemmas.{looked}
use Rattle.lease_house.proofs.solo.SoloHouse.owners.Goals as goal

pub returns : goal.returns
returns g c =
    let s = c.core_at-core.result.now.kept.state in
    let raised : c.later.result ≡ max c.args.m s.last = c.later.ensures ∙ ap (λ (n : ℕ). max c.args.m n) c.last.ensures.value in
    let same = looked (λ (t : State) (n : ℕ). owners_in_order t.table n) [] (slice_get (plain_house c.args.self.now).shards c.args.shard) s c.args.m c.later.result c.core_at-core.ensures.state raised in
    subst (λ (l : List Owner). IfOk c.owners.result (λ (v : Vec Owner Global). v.items ≡ l)) (sym same) c.owners.ensures
