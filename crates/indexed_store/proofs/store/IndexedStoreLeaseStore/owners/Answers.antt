use Rattle.std.proofs.Common.{◌≡◌, ◌≤◌, IfOk, sym, ap, ◌∙◌, subst}
use Rattle.pcp_base.specs.Owners.{owners}
use Rattle.pcp_base.specs.Tables.{Table, live}
use Rattle.lease_store.specs.OwnerOrder.{in_order}
use Rattle.indexed_store.specs.Indexed.{Indexed, IsIndexed}
use Rattle.indexed_store.specs.declared.store.IndexedStore.TheInside.{Inside}
use Rattle.std.proofs.Math.Nat.{le-max_right}
use Rattle.indexed_store.proofs.KeptStates.{sound-at}
use Rattle.indexed_store.proofs.LaterLive.{live-max}
use Rattle.indexed_store.proofs.store.IndexedStoreLeaseStore.owners.Goals as goal

pub returns : goal.returns
returns c =
    let i = c.self-inside.inside.0.0 in
    subst (λ (t : Table). IfOk c.owners_in_order.result (λ v. v.items ≡ in_order (owners t)))
    (ap (live i.leases.all) c.later-m.ensures ∙ sym (live-max i.leases.all i.last c.args.m)
    ∙ ap (λ (x : Inside). live x.state.state.table c.args.m) c.self-inside.view_is ∙ ap (λ (x : Indexed). live x.kept.state.table c.args.m) c.self.view_is) c.owners_in_order.ensures

pub owners_in_order-requires : goal.owners_in_order-requires
owners_in_order-requires c =
    let i = c.self-inside.inside.0.0 in
    let indexed = subst (λ (x : Inside). IsIndexed x.state x.reached x.terms) (sym c.self-inside.view_is) c.self.invariant in
    let later = subst (λ n. i.last ≤ n) (sym c.later-m.ensures) (le-max_right c.args.m i.last) in
    (sound-at i.leases.all i.last c.later-m.result later indexed.sound.sound.table).maps
