use Rattle.std.proofs.Common.{◌≡◌, ℕ, ◌+◌, ap, subst, arith}
use Rattle.std.proofs.lemmas.Result.{on_ok_weaker}
use Rattle.port_spans.specs.Along.{spot}
use Rattle.leased_ports.specs.Among.{runs_among}
use Rattle.leased_ports.specs.Steps.{AreFreed}
use Rattle.leased_ports.proofs.AssignLemmas.{freed_assigned}
use Rattle.leased_ports.proofs.ports.release.Goals as goal

pub free-requires-clause-within : goal.free-requires-clause-within
free-requires-clause-within g c = omega (arith, c.spot.ensures.bound, c.requires.within)

pub returns-clause-ok : goal.returns-clause-ok
returns-clause-ok g c m begun =
    on_ok_weaker c.free.result (λ freed. freed_assigned c.args.protocol c.args.start c.args.count c.requires.within c.args.ends.now c.args.wheel.now c.free.new.ends c.free.new.pool c.free.new.wheel
    (subst (λ (k : ℕ). AreFreed k c.args.count c.args.ends.now c.args.wheel.now c.free.new.ends c.free.new.pool c.free.new.wheel) c.spot.ensures.value freed) m begun) c.free.ensures.ok

pub returns-clause-steps : goal.returns-clause-steps
returns-clause-steps g c =
    let same : runs_among c.args.ends.now c.spot.result c.args.count ≡ runs_among c.args.ends.now (spot c.args.protocol c.args.start) c.args.count = ap (λ (k : ℕ). runs_among c.args.ends.now k c.args.count) c.spot.ensures.value in
    let freed = c.free.ensures.steps in
    omega (arith, same, freed)

pub returns-clause-behind : goal.returns-clause-behind
returns-clause-behind g c =
    on_ok_weaker c.free.result (λ told n. subst (λ (k : ℕ). runs_among c.free.new.ends (k + c.args.count) n ≡ runs_among c.args.ends.now (k + c.args.count) n) c.spot.ensures.value (told n)) c.free.ensures.behind
