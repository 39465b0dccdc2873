use Rattle.std.proofs.Common.{◌≡◌, ℕ, subst, arith}
use Rattle.port_runs.specs.Flags.{flags_of, IsMarked}
use Rattle.port_runs.proofs.WordFlags.{marked_none, marked_on, same_words}
use Rattle.port_runs.proofs.words.mark.Goals as goal

pub loop-place-init : goal.loop-place-init
loop-place-init c = record {
  marked = marked_none c.args.from c.args.value (flags_of c.args.words.now);
  ordered = omega arith;
  upto = omega (arith, c.requires.ordered);
}

pub mark_in_word-requires-clause-within : goal.mark_in_word-requires-clause-within
mark_in_word-requires-clause-within c =
    let l = c.loop-place in
    omega (arith, c.min-end.ensures, c.requires.within, same_words c.args.words.now l.words l.invariant.marked.same_length)

pub loop-place-preserved : goal.loop-place-preserved
loop-place-preserved c =
    let l = c.loop-place in
    record {
      marked = marked_on c.args.from l.place c.min-end.result c.args.value (flags_of c.args.words.now) (flags_of l.words) (flags_of c.mark_in_word.new.words) l.invariant.ordered (omega (arith, c.min-end.ensures)) l.invariant.marked c.mark_in_word.ensures;
      ordered = omega (arith, c.min-end.ensures, l.invariant.ordered);
      upto = omega (arith, c.min-end.ensures);
    }

pub returns : goal.returns
returns c =
    let l = c.loop-place in
    let end : l.place ≡ c.args.to = omega (arith, c.loop-place-test.false, l.invariant.upto) in
    subst (λ (to : ℕ). IsMarked c.args.from to c.args.value (flags_of c.args.words.now) (flags_of l.words)) end l.invariant.marked
