use Rattle.std.proofs.Common.{ap, ◌∙◌}
use Rattle.pcp_base.specs.Tables.{Table}
use Rattle.leased_ports.specs.Leased.{Leased}
use Rattle.indexed_store.specs.Tabled.{state_in}
use Rattle.indexed_store.proofs.Views.{state_of}
use Rattle.indexed_store.proofs.state.IndexedState.reach.Goals as goal

pub returns-clause-state : goal.returns-clause-state
returns-clause-state g c =
    let i = c.self.inside in
    ap (λ (t : Table). state_in t c.reach.new.self i.base i.address i.last i.started) c.retire_some.ensures.retires.all
    ∙ ap (λ (v : Leased). state_in i.leases.all v i.base i.address i.last i.started) c.reach.ensures.moved ∙ state_of c.self.view_is
