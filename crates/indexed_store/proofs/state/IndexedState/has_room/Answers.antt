use Rattle.std.proofs.Common.{ℕ, ◌+◌, nat_lt, length, ◌∙◌, arith}
use Rattle.pcp_base.specs.declared.leases.TheConstants.{MOST_LEASES}
use Rattle.indexed_store.proofs.LevelLemmas.{maps-levels, peers-levels}
use Rattle.indexed_store.proofs.StateLooks.{leases_of, looked_in, tabled_of}
use Rattle.indexed_store.proofs.state.IndexedState.has_room.Goals as goal

pub returns-clause-room : goal.returns-clause-room
returns-clause-room g c =
    c.has_space_counted.ensures.space
    ∙ looked_in (λ t. nat_lt (length t.maps + length t.peers) MOST_LEASES) c.args.self.now c.args.m c.self.inside.leases.found (leases_of c.self.view_is) c.requires.kept c.requires.later

pub returns-clause-steps : goal.returns-clause-steps
returns-clause-steps g c =
    let taken = c.has_space_counted.ensures.steps in
    let tabled = tabled_of c.self.view_is c.requires.kept in
    let maps = maps-levels c.levels_grow.ensures c.self.inside.leases.found tabled in
    let peers = peers-levels c.levels_grow.ensures c.self.inside.leases.found tabled in
    omega (arith, taken, maps, peers)
