use Rattle.std.proofs.Common.{ap}
use Rattle.external_pool.specs.declared.uses.Use.TheVariants.{Free, Held, Resting}
use Rattle.external_pool.specs.PortUses.{is_held, is_resting}
use Rattle.index_rows.proofs.RunUses.{still-whole, used}
use Rattle.index_rows.proofs.vacancies.rest_and_wake.Goals as goal

pub hold-requires-clause-may : goal.hold-requires-clause-may
hold-requires-clause-may c = record { ports = c.requires.ports; none_held = λ port from to. ap is_held (c.requires.free port from to) }

pub retire-requires-clause-held : goal.retire-requires-clause-held
retire-requires-clause-held c =
    let last = c.args.last.now in
    record { ports = c.requires.ports; held = used c.args.pool.now c.hold.new.pool last.protocol c.args.start c.args.n (Held last.address) c.requires.whole c.requires.ports.end c.in_ok-hold.ensures.pool }

pub wake-requires-clause-rests : goal.wake-requires-clause-rests
wake-requires-clause-rests c port from to =
    let last = c.args.last.now in
    let whole = still-whole c.args.pool.now c.hold.new.pool last.protocol c.args.start c.args.n (Held last.address) c.requires.whole c.requires.ports.end c.in_ok-hold.ensures.pool in
    ap is_resting (used c.hold.new.pool c.retire.new.pool last.protocol c.args.start c.args.n (Resting last.address last.port) whole c.requires.ports.end c.retire.ensures.pool port from to)

pub rest-requires-clause-free : goal.rest-requires-clause-free
rest-requires-clause-free c =
    let last = c.args.last.now in
    let held = still-whole c.args.pool.now c.hold.new.pool last.protocol c.args.start c.args.n (Held last.address) c.requires.whole c.requires.ports.end c.in_ok-hold.ensures.pool in
    let rests = still-whole c.hold.new.pool c.retire.new.pool last.protocol c.args.start c.args.n (Resting last.address last.port) held c.requires.ports.end c.retire.ensures.pool in
    used c.retire.new.pool c.wake.new.pool last.protocol c.args.start c.args.n Free rests c.requires.ports.end c.wake.ensures.pool

pub wake-requires-2-clause-rests : goal.wake-requires-2-clause-rests
wake-requires-2-clause-rests c port from to =
    let last = c.args.last.now in
    let held = still-whole c.args.pool.now c.hold.new.pool last.protocol c.args.start c.args.n (Held last.address) c.requires.whole c.requires.ports.end c.in_ok-hold.ensures.pool in
    let rests = still-whole c.hold.new.pool c.retire.new.pool last.protocol c.args.start c.args.n (Resting last.address last.port) held c.requires.ports.end c.retire.ensures.pool in
    let awake = still-whole c.retire.new.pool c.wake.new.pool last.protocol c.args.start c.args.n Free rests c.requires.ports.end c.wake.ensures.pool in
    ap is_resting (used c.wake.new.pool c.rest.new.pool last.protocol c.args.start c.args.n (Resting last.address last.port) awake c.requires.ports.end c.rest.ensures.pool port from to)
