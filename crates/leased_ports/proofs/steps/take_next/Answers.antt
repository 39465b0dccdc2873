use Rattle.std.proofs.Common.{arith}
use Rattle.leased_ports.proofs.AmongLemmas.{taken-fewer}
use Rattle.leased_ports.proofs.BlockLemmas.{run_uses}
use Rattle.leased_ports.proofs.FreeLemmas.{next_there, next_set, next_behind, next_within, freeing_last, freeing_more}
use Rattle.leased_ports.proofs.PhaseLemmas.{none-due-removed}
use Rattle.leased_ports.proofs.SpotLemmas.{run_low}
use Rattle.leased_ports.proofs.steps.take_next.Goals as goal

pub returns-in_default-clause-freeing : goal.returns-in_default-clause-freeing
returns-in_default-clause-freeing g c from start before from_on f = freeing_last from c.args.at c.args.to start before c.args.ends.now c.args.pool.now c.args.wheel.now f c.in_default.ensures

pub take_out-requires-clause-set : goal.take_out-requires-clause-set
take_out-requires-clause-set g c = next_set c.args.ends.now c.args.pool.now c.args.wheel.now c.requires.in_step c.args.at c.args.to c.in-Some.run' c.in-Some.ensures

pub take_out-requires-clause-used : goal.take_out-requires-clause-used
take_out-requires-clause-used g c =
    let ends = c.args.ends.now in let pool = c.args.pool.now in let waits = c.args.wheel.now in
    run_uses ends pool waits c.requires.in_step c.in-Some.run'.first c.in-Some.run' (next_there ends pool waits c.requires.in_step c.args.at c.args.to c.in-Some.run' c.in-Some.ensures)
    (next_set ends pool waits c.requires.in_step c.args.at c.args.to c.in-Some.run' c.in-Some.ensures)

pub overflow_add-result : goal.overflow_add-result
overflow_add-result g c =
    let low = run_low c.in-Some.run' (next_set c.args.ends.now c.args.pool.now c.args.wheel.now c.requires.in_step c.args.at c.args.to c.in-Some.run' c.in-Some.ensures) in
    omega (arith, low)

pub returns-clause-behind : goal.returns-clause-behind
returns-clause-behind g c = next_behind c.args.ends.now c.args.pool.now c.args.wheel.now c.requires.in_step c.args.at c.args.to c.in-Some.run' c.in-Some.ensures

pub returns-clause-within : goal.returns-clause-within
returns-clause-within g c = next_within c.args.ends.now c.args.pool.now c.args.wheel.now c.requires.in_step c.args.at c.args.to c.in-Some.run' c.in-Some.ensures c.requires.to_begins

pub returns-clause-freeing : goal.returns-clause-freeing
returns-clause-freeing g c from start before from_on f =
    freeing_more from c.args.at c.args.to start before c.args.ends.now c.args.pool.now c.args.wheel.now f from_on c.in-Some.run' c.in-Some.ensures
    c.take_out.new.ends c.take_out.new.pool c.take_out.new.wheel c.take_out.ensures.apart c.take_out.ensures.runs c.take_out.ensures.used c.take_out.ensures.waits

pub returns-clause-late : goal.returns-clause-late
returns-clause-late g c seen none = none-due-removed seen c.args.wheel.now c.take_out.new.wheel c.in-Some.run'.first c.take_out.ensures.waits none

pub returns-clause-taken : goal.returns-clause-taken
returns-clause-taken g c =
    let ends = c.args.ends.now in let pool = c.args.pool.now in let waits = c.args.wheel.now in
    let r = c.in-Some.run' in
    let set = next_set ends pool waits c.requires.in_step c.args.at c.args.to r c.in-Some.ensures in
    let there = next_there ends pool waits c.requires.in_step c.args.at c.args.to r c.in-Some.ensures in
    let within = next_within ends pool waits c.requires.in_step c.args.at c.args.to r c.in-Some.ensures c.requires.to_begins in
    let fewer = taken-fewer ends c.take_out.new.ends c.args.at c.args.to r there c.in-Some.ensures.from set.some within c.take_out.ensures.runs in
    omega (arith, fewer, c.take.ensures)
