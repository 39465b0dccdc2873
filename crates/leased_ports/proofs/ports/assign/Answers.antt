use Rattle.std.proofs.Common.{◌≡◌, ℕ, ◌+◌, refl, ap, ◌∙◌, subst, arith}
use Rattle.std.proofs.lemmas.Result.{on_ok_weaker}
use Rattle.port_spans.specs.Along.{spot_of}
use Rattle.leased_ports.specs.Among.{runs_among}
use Rattle.leased_ports.specs.Steps.{AreAssigned, AreFreed, last_along}
use Rattle.leased_ports.proofs.AssignLemmas.{freed_then, run-as}
use Rattle.leased_ports.proofs.ports.assign.Goals as goal

pub returns-in-Some-clause-ok : goal.returns-in-Some-clause-ok
returns-in-Some-clause-ok g c =
    let first = c.args.first.now in
    on_ok_weaker c.renew.result (subst (λ (n : ℕ). AreAssigned c.args.reached c.args.ends.now first.endpoint.protocol first.external n (last_along first) c.renew.new.ends c.renew.new.pool c.renew.new.wheel) c.in-Some.ensures.some.count)
    c.renew.ensures.ok

pub free-requires-clause-within : goal.free-requires-clause-within
free-requires-clause-within g c = omega (arith, c.spot_of.ensures.bound, c.requires.last.external)

pub insert-requires-clause-set : goal.insert-requires-clause-set
insert-requires-clause-set g c = record {
  first = c.spot_of.ensures.value;
  some = c.requires.last.some;
  external = c.requires.last.is_last.external;
  within = c.requires.last.external;
  internal = c.requires.last.internal;
  near = c.requires.last.is_last.near;
}

pub insert-requires-clause-begun : goal.insert-requires-clause-begun
insert-requires-clause-begun g c = c.in_ok-free.ensures.ok.begun c.args.reached c.requires.begun

pub returns-clause-ok : goal.returns-clause-ok
returns-clause-ok g c =
    let first = c.args.first.now in
    let freed = subst (λ (k : ℕ). AreFreed k c.args.count c.args.ends.now c.args.wheel.now c.free.new.ends c.free.new.pool c.free.new.wheel) c.spot_of.ensures.value c.in_ok-free.ensures.ok in
    on_ok_weaker c.insert.result (freed_then first.endpoint.protocol first.external c.args.count c.requires.last.external c.args.ends.now c.args.wheel.now c.free.new.ends c.free.new.pool c.free.new.wheel freed
    c.args.reached (last_along first) c.insert.new.ends c.insert.new.pool c.insert.new.wheel) c.insert.ensures.ok

pub returns-clause-late : goal.returns-clause-late
returns-clause-late g c = on_ok_weaker c.insert.result (λ told seen before none. told seen before (c.in_ok-free.ensures.late seen none)) c.insert.ensures.late

pub returns-in-Some-clause-run : goal.returns-in-Some-clause-run
returns-in-Some-clause-run g c =
    let first = c.args.first.now in
    on_ok_weaker c.renew.result (run-as c.renew.new.ends first c.in-Some.run'.first (spot_of first) c.in-Some.run'.count c.args.count c.in-Some.ensures.some.at_first c.in-Some.ensures.some.count) c.renew.ensures.run

pub returns-clause-run : goal.returns-clause-run
returns-clause-run g c =
    let first = c.args.first.now in
    on_ok_weaker c.insert.result (run-as c.insert.new.ends first c.spot_of.result (spot_of first) c.args.count c.args.count c.spot_of.ensures.value refl) c.insert.ensures.run

pub returns-clause-steps : goal.returns-clause-steps
returns-clause-steps g c =
    let same : runs_among c.args.ends.now c.spot_of.result c.args.count ≡ runs_among c.args.ends.now (spot_of c.args.first.now) c.args.count = ap (λ (k : ℕ). runs_among c.args.ends.now k c.args.count) c.spot_of.ensures.value in
    let tick = c.tick.ensures in let freed = c.free.ensures.steps in let inserted = c.insert.ensures.steps in
    omega (arith, same, tick, freed, inserted)

pub returns-in-Some-clause-behind : goal.returns-in-Some-clause-behind
returns-in-Some-clause-behind g c = on_ok_weaker c.renew.result (λ told n. told (spot_of c.args.first.now + c.args.count) n) c.renew.ensures.among

pub returns-clause-behind : goal.returns-clause-behind
returns-clause-behind g c =
    on_ok_weaker c.insert.result (λ told n. subst (λ (k : ℕ). runs_among c.insert.new.ends (k + c.args.count) n ≡ runs_among c.args.ends.now (k + c.args.count) n) c.spot_of.ensures.value (told n ∙ c.in_ok-free.ensures.behind n)) c.insert.ensures.behind
