use Rattle.std.proofs.Common.{◌<◌, sym, ◌∙◌, arith}
use Rattle.ordered_index.proofs.MarkLemmas.{walked_found, walked_on}
use Rattle.ordered_index.proofs.marks.last_mark.Goals as goal

pub loop-end-init : goal.loop-end-init
loop-end-init c = record { none = λ m from to. absurd (omega (arith, from, to)); within = omega arith }

pub returns-then-is_some : goal.returns-then-is_some
returns-then-is_some c =
    let l = c.loop-end in
    let some : 0 < l.end = omega (arith, c.loop-end-test.true) in
    walked_found c.args.words.now c.args.n l.end some l.invariant.within l.invariant.none c.last_in_word-found.result (sym c.is_some.ensures ∙ c.if-is_some.true) c.last_in_word-found.ensures

pub loop-end-preserved : goal.loop-end-preserved
loop-end-preserved c =
    let l = c.loop-end in
    let some : 0 < l.end = omega (arith, c.loop-end-test.true) in
    let within = l.invariant.within in
    record {
      none = walked_on c.args.words.now c.args.n l.end some l.invariant.none c.last_in_word-found.result (sym c.is_some.ensures ∙ c.if-is_some.false) c.last_in_word-found.ensures;
      within = omega (arith, within, some);
    }

pub returns : goal.returns
returns c =
    let l = c.loop-end in
    λ m up. l.invariant.none m (let done = c.loop-end-test.false in omega (arith, done)) up
