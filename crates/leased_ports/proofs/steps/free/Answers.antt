use Rattle.std.proofs.Common.{◌≡◌, ◌+◌, ◌-◌, ◌≤◌, ap, ◌∙◌, arith}
use Rattle.leased_ports.specs.Among.{starts_among, runs_among}
use Rattle.leased_ports.proofs.AmongLemmas.{parted-among, parted-behind}
use Rattle.leased_ports.proofs.PartLemmas.{in_step_told}
use Rattle.leased_ports.proofs.FreeLemmas.{freed_last}
use Rattle.leased_ports.proofs.steps.free.Goals as goal

pub take_between-requires-clause-in_step : goal.take_between-requires-clause-in_step
take_between-requires-clause-in_step g c =
    in_step_told c.args.ends.now c.part-2.new.ends c.args.pool.now c.args.wheel.now c.part-2.new.wheel c.requires.in_step c.in_ok-part-2.ensures.scheduled
    (λ at. c.in_ok-part-2.ensures.uses at ∙ c.in_ok-part.ensures.uses at)

pub take_between-requires-clause-from_begins : goal.take_between-requires-clause-from_begins
take_between-requires-clause-from_begins g c = c.in_ok-part-2.ensures.others c.args.from c.in_ok-part.ensures.begins

pub returns-clause-ok : goal.returns-clause-ok
returns-clause-ok g c =
    freed_last c.args.from c.args.count c.args.ends.now c.args.wheel.now c.part-2.new.ends c.part-2.new.wheel c.take_between.new.ends c.take_between.new.pool c.take_between.new.wheel c.take_between.ensures.freeing
    (λ at. c.in_ok-part-2.ensures.ends at ∙ c.in_ok-part.ensures.ends at) (λ m was. c.in_ok-part-2.ensures.begun m (c.in_ok-part.ensures.begun m was))

pub returns-clause-late : goal.returns-clause-late
returns-clause-late g c seen none = c.take_between.ensures.late seen (c.in_ok-part-2.ensures.late seen (c.in_ok-part.ensures.late seen none))

pub returns-clause-steps : goal.returns-clause-steps
returns-clause-steps g c =
    let from = c.args.from in
    let few : starts_among c.part-2.new.ends from c.args.count ≤ runs_among c.args.ends.now from c.args.count =
    parted-among c.args.ends.now c.part.new.ends c.part-2.new.ends from c.args.count c.in_ok-part.ensures.starts (c.in_ok-part.ensures.ends from) c.in_ok-part-2.ensures.starts in
    let count : from + c.args.count - from ≡ c.args.count = omega arith in
    let same : starts_among c.part-2.new.ends from (from + c.args.count - from) ≡ starts_among c.part-2.new.ends from c.args.count = ap (starts_among c.part-2.new.ends from) count in
    let one = c.part.ensures.steps in let two = c.part-2.ensures.steps in let rest = c.take_between.ensures.steps in
    omega (arith, few, same, one, two, rest)

pub returns-clause-behind : goal.returns-clause-behind
returns-clause-behind g c =
    parted-behind c.args.ends.now c.part.new.ends c.part-2.new.ends c.take_between.new.ends c.args.from c.args.count c.in_ok-part.ensures.starts c.in_ok-part.ensures.ends
    c.in_ok-part-2.ensures.starts c.in_ok-part-2.ensures.ends c.take_between.ensures.freeing.above
