use Rattle.std.proofs.Common.{◌≡◌, ◌++◌, ◌∷◌, [], arith, length-append}
use Rattle.std.proofs.lemmas.Result.{err_from_is_err_and}
use Rattle.lease_records.specs.RecordReading.{filters_at}
use Rattle.lease_records.proofs.FilterLoop.{goes_on, ends, is_done}
use Rattle.lease_records.proofs.reading.filters_of.Goals as goal

pub returns-in_err-filter : goal.returns-in_err-filter
returns-in_err-filter c =
    let p = err_from_is_err_and c.from_residual.result c.from_residual.ensures.1 in
    rw p.1 (ends c.loop.filters c.args.count c.loop.counter c.loop.rest.now (filters_at c.args.count c.args.octets.now) c.loop-test.true c.in_err-filter.ensures c.loop.invariant.total)

pub loop-preserved : goal.loop-preserved
loop-preserved c =
    let more : c.push-pushed.new.self ≡ c.loop.filters ++ c.in_ok-filter.filter ∷ [] = c.if-prove.ensures.added in
    record {
      count = rw (more, length-append) (omega (arith, c.loop.invariant.count));
      total = rw more (goes_on c.loop.filters c.args.count c.loop.counter c.loop.rest.now c.in_ok-filter.filter c.in_ok-filter.after.now (filters_at c.args.count c.args.octets.now) c.loop-test.true c.in_ok-filter.ensures c.loop.invariant.total);
    }

pub returns : goal.returns
returns c = is_done c.loop.filters c.args.count c.loop.counter c.loop.rest.now (filters_at c.args.count c.args.octets.now) c.loop-test.false c.loop.invariant.total
