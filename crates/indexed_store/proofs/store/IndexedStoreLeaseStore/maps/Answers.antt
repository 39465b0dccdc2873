use Rattle.std.proofs.Common.{◌≡◌, IfOk, sym, ap, ◌∙◌, subst}
use Rattle.pcp_base.specs.Tables.{Table, live}
use Rattle.indexed_store.specs.Indexed.{Indexed}
use Rattle.indexed_store.specs.declared.store.IndexedStore.TheInside.{Inside}
use Rattle.indexed_store.proofs.LaterLive.{live-max}
use Rattle.indexed_store.proofs.store.IndexedStoreLeaseStore.maps.Goals as goal

pub returns : goal.returns
returns c =
    let i = c.self-inside.inside.0.0 in
    subst (λ (t : Table). IfOk c.live_maps.result (λ v. v.items ≡ t.maps))
    (ap (live i.leases.all) c.later-m.ensures ∙ sym (live-max i.leases.all i.last c.args.m)
    ∙ ap (λ (x : Inside). live x.state.state.table c.args.m) c.self-inside.view_is ∙ ap (λ (x : Indexed). live x.kept.state.table c.args.m) c.self.view_is) c.live_maps.ensures
