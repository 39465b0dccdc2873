use Rattle.std.proofs.Common.{find, is_some, sym, ap, ◌∙◌}
use Rattle.pcp_base.specs.Tables.{Table, covers, live}
use Rattle.indexed_store.specs.Indexed.{Indexed}
use Rattle.indexed_store.specs.declared.store.IndexedStore.TheInside.{Inside}
use Rattle.indexed_store.proofs.LaterLive.{live-max}
use Rattle.indexed_store.proofs.store.IndexedStoreLeaseStore.covered.Goals as goal

pub returns : goal.returns
returns c =
    let i = c.self-inside.inside.0.0 in
    c.covered.ensures ∙ ap (λ (t : Table). is_some (find (λ l. covers l c.args.endpoint.now) t.maps))
    (ap (live i.leases.all) c.later-m.ensures ∙ sym (live-max i.leases.all i.last c.args.m)
    ∙ ap (λ (x : Inside). live x.state.state.table c.args.m) c.self-inside.view_is ∙ ap (λ (x : Indexed). live x.kept.state.table c.args.m) c.self.view_is)
