use Rattle.std.proofs.Common.{ap, ◌∙◌}
use Rattle.pcp_base.specs.Tables.{Table}
use Rattle.lease_store.specs.Lookups.{next_inside}
use Rattle.indexed_store.proofs.InsideLemmas.{next-live}
use Rattle.indexed_store.proofs.StateLooks.{leases_of, state-live}
use Rattle.indexed_store.proofs.state.IndexedState.next_inside.Goals as goal

pub returns : goal.returns
returns c =
    let e = c.args.endpoint.now in let m = c.args.m in let s = c.args.self.now in
    c.next_inside.ensures
    ∙ ap (λ (t : Table). next_inside t m e) (leases_of c.self.view_is)
    ∙ next-live s.leases s.state.table m e (state-live s m c.requires.kept c.requires.later)
