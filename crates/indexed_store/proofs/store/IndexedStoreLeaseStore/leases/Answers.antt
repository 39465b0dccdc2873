use Rattle.std.proofs.Common.{◌+◌, length, sym, ap, ◌∙◌}
use Rattle.pcp_base.specs.Tables.{Table, live}
use Rattle.indexed_store.specs.Indexed.{Indexed}
use Rattle.indexed_store.specs.declared.store.IndexedStore.TheInside.{Inside}
use Rattle.indexed_store.proofs.LaterLive.{live-max}
use Rattle.indexed_store.proofs.store.IndexedStoreLeaseStore.leases.Goals as goal

pub returns : goal.returns
returns c =
    let i = c.self-inside.inside.0.0 in
    c.count.ensures ∙ ap (λ (t : Table). length t.maps + length t.peers)
    (ap (live i.leases.all) c.later-m.ensures ∙ sym (live-max i.leases.all i.last c.args.m)
    ∙ ap (λ (x : Inside). live x.state.state.table c.args.m) c.self-inside.view_is ∙ ap (λ (x : Indexed). live x.kept.state.table c.args.m) c.self.view_is)
