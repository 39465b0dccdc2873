use Rattle.std.proofs.Common.{ℕ, find, count_by, ◌∙◌, arith}
use Rattle.std.specs.Option.{option_map}
use Rattle.pcp_base.specs.Tables.{covers}
use Rattle.indexed_store.proofs.LevelLemmas.{maps-levels}
use Rattle.indexed_store.proofs.StateLooks.{leases_of, looked_in, tabled_of}
use Rattle.indexed_store.proofs.state.IndexedState.covering.Goals as goal

pub returns-clause-lease : goal.returns-clause-lease
returns-clause-lease g c =
    let e = c.args.endpoint.now in
    c.covering_counted.ensures.lease
    ∙ looked_in (λ t. find (λ l. covers l e) t.maps) c.args.self.now c.args.m c.self.inside.leases.found (leases_of c.self.view_is) c.requires.kept c.requires.later

pub returns-clause-steps : goal.returns-clause-steps
returns-clause-steps g c =
    let taken = c.covering_counted.ensures.steps in
    let few = maps-levels c.levels_grow.ensures c.self.inside.leases.found (tabled_of c.self.view_is c.requires.kept) in
    omega (arith, taken, few)
