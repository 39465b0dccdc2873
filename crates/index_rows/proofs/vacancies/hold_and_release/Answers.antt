use Rattle.std.proofs.Common.{ap}
use Rattle.external_pool.specs.declared.uses.Use.TheVariants.{Held}
use Rattle.external_pool.specs.PortUses.{is_held}
use Rattle.index_rows.proofs.RunUses.{used}
use Rattle.index_rows.proofs.vacancies.hold_and_release.Goals as goal

pub hold-requires-clause-may : goal.hold-requires-clause-may
hold-requires-clause-may c = record { ports = c.requires.ports; none_held = λ port from to. ap is_held (c.requires.free port from to) }

pub release-requires-clause-may : goal.release-requires-clause-may
release-requires-clause-may c =
    let last = c.args.last.now in
    record { ports = c.requires.ports; held = used c.args.pool.now c.hold.new.pool last.protocol c.args.start c.args.n (Held last.address) c.requires.whole c.requires.ports.end c.in_ok-hold.ensures.pool }
