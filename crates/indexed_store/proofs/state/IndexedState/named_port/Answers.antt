use Rattle.std.proofs.Common.{ℕ, find, count_by, ◌∙◌, arith}
use Rattle.std.specs.Option.{option_map}
use Rattle.pcp_base.specs.Tables.{names}
use Rattle.indexed_store.proofs.LevelLemmas.{peers-levels}
use Rattle.indexed_store.proofs.StateLooks.{leases_of, looked_in, tabled_of}
use Rattle.indexed_store.proofs.state.IndexedState.named_port.Goals as goal

pub returns-clause-port : goal.returns-clause-port
returns-clause-port g c =
    let e = c.args.endpoint.now in
    c.named_port_counted.ensures.port
    ∙ looked_in (λ t. option_map (λ l. l.external) (find (λ l. names l e) t.peers)) c.args.self.now c.args.m c.self.inside.leases.found (leases_of c.self.view_is) c.requires.kept c.requires.later

pub returns-clause-steps : goal.returns-clause-steps
returns-clause-steps g c =
    let taken = c.named_port_counted.ensures.steps in
    let few = peers-levels c.levels_grow.ensures c.self.inside.leases.found (tabled_of c.self.view_is c.requires.kept) in
    omega (arith, taken, few)
