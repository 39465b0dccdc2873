use Rattle.std.proofs.Common.{◌*◌, arith}
use Rattle.port_runs.specs.Flags.{flags_of}
use Rattle.port_runs.proofs.WordRuns.{longest_begins, longest_on, longest_of_word}
use Rattle.port_runs.proofs.leaf.longest_in.Goals as goal

pub loop-place-init : goal.loop-place-init
loop-place-init c = record {
  even = longest_begins (flags_of c.args.words.now) (64 * c.args.index) 0;
  odd = longest_begins (flags_of c.args.words.now) (64 * c.args.index) 1;
}

pub loop-place-preserved : goal.loop-place-preserved
loop-place-preserved c =
    let l = c.loop-place in
    let start = c.next_run-start.result.0 in
    let stop = c.next_run-start.result.1 in
    record {
      even = longest_on c.args.words.now c.args.index c.requires.index l.place start stop c.next_run-start.ensures 0 l.even c.counted_from.result (omega arith) c.counted_from.ensures l.invariant.even c.max-even.result c.max-even.ensures;
      odd = longest_on c.args.words.now c.args.index c.requires.index l.place start stop c.next_run-start.ensures 1 l.odd c.counted_from-in-loop-place.result (omega arith) c.counted_from-in-loop-place.ensures l.invariant.odd c.max-odd.result c.max-odd.ensures;
    }

pub returns-clause-even : goal.returns-clause-even
returns-clause-even c =
    let l = c.loop-place in
    longest_of_word (flags_of c.args.words.now) (64 * c.args.index) l.place 0 l.even (omega (arith, c.loop-place-test.false)) l.invariant.even

pub returns-clause-odd : goal.returns-clause-odd
returns-clause-odd c =
    let l = c.loop-place in
    longest_of_word (flags_of c.args.words.now) (64 * c.args.index) l.place 1 l.odd (omega (arith, c.loop-place-test.false)) l.invariant.odd
