use Rattle.std.proofs.Common.{rules, ◌≡◌, Err}
use Rattle.script_player.proofs.PlayLemmas.{answers_at, ends_at, fails_at, stops_at}
use Rattle.script_player.specs.declared.readers.Ending.TheVariants.{End}
use Rattle.script_player.proofs.player.turn.Goals as goal

pub returns-in_err-ending-clause-turned : goal.returns-in_err-ending-clause-turned
returns-in_err-ending-clause-turned g c first before number u =
    let same : c.from_residual.result ≡ Err c.in_err-ending.field-0.0 = search rules in
    stops_at g.A.LineAnswerer.effects g.A.LineAnswerer.house g.A.LineAnswerer.way g.met.A.LineAnswerer.ways g.met.A.LineAnswerer.same_externals
    first c.args.answerer.now before number c.args.reader.now _ u
    c.next_line.new.text.items c.next_line.new.self (g.S.Source.left c.next_line.new.input) c.in_err-ending.field-0.0 c.from_residual.result
    (g.met.A.LineAnswerer.stays c.args.answerer.now c.requires.rests) same c.in_err-ending.ensures.stops

pub returns-in_err-answer_text-clause-turned : goal.returns-in_err-answer_text-clause-turned
returns-in_err-answer_text-clause-turned g c first before number u =
    let same : c.from_residual-in_err-answer_text.result ≡ Err c.in_err-answer_text.field-0.0 = search rules in
    let other : ¬ (c.in_ok-ending.ending ≡ End) = search rules in
    fails_at g.A.LineAnswerer.effects g.A.LineAnswerer.house g.A.LineAnswerer.way g.met.A.LineAnswerer.ways g.met.A.LineAnswerer.same_externals
    first c.args.answerer.now before number c.args.reader.now _ u
    c.answer_text.new.answerer c.next_line.new.text.items c.deref.result.now c.next_line.new.self (g.S.Source.left c.next_line.new.input) (g.W.Sink.held c.answer_text.new.out)
    c.in_ok-ending.ending c.in_err-answer_text.field-0.0 c.from_residual-in_err-answer_text.result other same c.deref.ensures.value c.in_ok-ending.ensures.ends c.in_err-answer_text.ensures.err

pub returns-then-eq-clause-turned : goal.returns-then-eq-clause-turned
returns-then-eq-clause-turned g c first before number u =
    let same : c.in_ok-ending.ending ≡ End = search rules in
    ends_at g.A.LineAnswerer.effects g.A.LineAnswerer.house g.A.LineAnswerer.way g.met.A.LineAnswerer.ways g.met.A.LineAnswerer.same_externals
    first c.args.answerer.now before number c.args.reader.now _ u
    c.next_line.new.text.items c.next_line.new.self (g.S.Source.left c.next_line.new.input) c.in_ok-ending.ending
    (g.met.A.LineAnswerer.stays c.args.answerer.now c.requires.rests) same c.in_ok-ending.ensures.ends

pub returns-clause-turned : goal.returns-clause-turned
returns-clause-turned g c first before number u =
    let other : ¬ (c.in_ok-ending.ending ≡ End) = search rules in
    answers_at g.A.LineAnswerer.effects g.A.LineAnswerer.house g.A.LineAnswerer.way g.met.A.LineAnswerer.ways g.met.A.LineAnswerer.same_externals
    first c.args.answerer.now before number c.args.reader.now _ u
    c.answer_text.new.answerer c.next_line.new.text.items c.deref.result.now c.next_line.new.self (g.S.Source.left c.next_line.new.input) (g.W.Sink.held c.answer_text.new.out)
    c.in_ok-ending.ending other c.deref.ensures.value c.in_ok-ending.ensures.limits c.in_ok-ending.ensures.ends c.in_ok-answer_text.ensures.ok
