use Rattle.std.proofs.Common.{◌*◌, sym, ◌∙◌, arith}
use Rattle.port_runs.specs.Flags.{flags_of}
use Rattle.port_runs.proofs.WordRuns.{none_on, found_of, none_in_word}
use Rattle.port_runs.proofs.Search.{none_when}
use Rattle.port_runs.proofs.leaf.first_in_word.Goals as goal

pub loop-place-init : goal.loop-place-init
loop-place-init c t f = omega (arith, f.from)

pub returns-then-is_some : goal.returns-then-is_some
returns-then-is_some c =
    let l = c.loop-place in
    found_of c.args.words.now c.args.index c.requires.index l.place c.next_run-start.result.0 c.next_run-start.result.1 c.next_run-start.ensures c.args.n c.args.parity c.requires.some l.invariant c.first_between-found.result (sym c.is_some.ensures ∙ c.if-is_some.true) c.first_between-found.ensures.found

pub loop-place-preserved : goal.loop-place-preserved
loop-place-preserved c =
    let l = c.loop-place in
    none_on c.args.words.now c.args.index c.requires.index l.place c.next_run-start.result.0 c.next_run-start.result.1 c.next_run-start.ensures c.args.n c.args.parity c.requires.some l.invariant
    (none_when _ c.first_between-found.result (sym c.is_some.ensures ∙ c.if-is_some.false) c.first_between-found.ensures.none)

pub returns : goal.returns
returns c =
    let l = c.loop-place in
    none_in_word (flags_of c.args.words.now) (64 * c.args.index) c.args.n c.args.parity l.place c.requires.some (omega (arith, c.loop-place-test.false)) l.invariant
