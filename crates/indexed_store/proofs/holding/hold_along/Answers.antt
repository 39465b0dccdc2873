use Rattle.std.proofs.Common.{◌≡◌, ◌≢◌, arith}
use Rattle.indexed_store.proofs.HoldSteps.{whole-one, whole-up}
use Rattle.indexed_store.proofs.holding.hold_along.Goals as goal

pub returns-then-next-first-clause-whole : goal.returns-then-next-first-clause-whole
returns-then-next-first-clause-whole g c = λ unparted.
    let first : c.in-Some.next ≡ c.args.run.now.first.external = grind (arith, c.if-next-first.true) in
    whole-one c.args.peers.now.found c.args.run.now c.in-Some.next c.in-Some.ensures.next unparted first c.requires.some

pub returns-clause-whole : goal.returns-clause-whole
returns-clause-whole g c = λ unparted.
    let other : c.in-Some.next ≢ c.args.run.now.first.external = grind (arith, c.if-next-first.false) in
    let up = whole-up c.args.peers.now.found c.args.run.now c.in-Some.next c.in-Some.ensures.next unparted other in
    let apart = c.from.ensures in let least = c.min.ensures in
    first_of (omega (arith, up, apart, least), grind (arith, up, apart, least))
