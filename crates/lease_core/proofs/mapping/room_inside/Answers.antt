use Rattle.std.proofs.Common.{rules, ◌≡◌}
use Rattle.std.specs.Prelude.{min}
use Rattle.pcp_base.specs.declared.leases.TheConstants.{MOST_PORTS}
use Rattle.lease_core.specs.DecideMap.{size_asked}
use Rattle.lease_core.proofs.RoomLemmas.{room-one}
use Rattle.lease_core.proofs.mapping.room_inside.Goals as goal

pub returns-then-size-eq1-clause-room : goal.returns-then-size-eq1-clause-room
returns-then-size-eq1-clause-room g c =
    let one : min (size_asked c.args.ask.now) MOST_PORTS ≡ 1 = search rules in
    room-one (g.S.LeaseStore.state c.args.store.now) c.args.m c.args.ask.now c.requires.ask one
