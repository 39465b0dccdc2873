use Rattle.std.proofs.Common.{ℕ, ap, ◌∙◌}
use Rattle.pcp_base.specs.Tables.{Table, live}
use Rattle.lease_store.specs.Lookups.{next_inside, up_to_next}
use Rattle.indexed_store.proofs.InsideLemmas.{next-live}
use Rattle.indexed_store.proofs.StateLooks.{leases_of, state-live}
use Rattle.indexed_store.proofs.state.IndexedState.room_inside.Goals as goal

pub returns-clause-room : goal.returns-clause-room
returns-clause-room g c =
    let e = c.args.endpoint.now in let m = c.args.m in let s = c.args.self.now in
    c.room_inside_counted.ensures.room
    ∙ ap (λ (t : Table). up_to_next (next_inside t m e) e.port c.args.most) (leases_of c.self.view_is)
    ∙ ap (λ o. up_to_next o e.port c.args.most) (next-live s.leases s.state.table m e (state-live s m c.requires.kept c.requires.later))
