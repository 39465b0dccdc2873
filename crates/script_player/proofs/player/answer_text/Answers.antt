use Rattle.std.proofs.Common.{rules, [], ◌∷◌, subst}
use Rattle.pcp_script.specs.Lines.{IsLine}
use Rattle.script_player.specs.Playing.{IsInDoubt}
use Rattle.script_player.specs.Ways.{course_of}
use Rattle.script_player.proofs.AnswerLemmas.{fails_in_doubt}
use Rattle.script_player.proofs.player.answer_text.Goals as goal

pub returns-in_err-told-clause-err : goal.returns-in_err-told-clause-err
returns-in_err-told-clause-err g c =
    let course = course_of g.A.LineAnswerer.effects g.A.LineAnswerer.house g.A.LineAnswerer.way c.args.answerer.now c.answer.new.self in
    let houses = g.A.LineAnswerer.house c.args.answerer.now ∷ g.A.LineAnswerer.effects.after (g.A.LineAnswerer.house c.args.answerer.now) c.in_ok-line.line ∷ [] in
    let way = c.in_err-told.ensures.way in
    let doubt : IsInDoubt course c.args.text.now = record {
      line = c.in_ok-line.line;
      read = subst (λ externals. IsLine externals c.args.text.now c.in_ok-line.line) c.config.ensures c.in_ok-line.ensures.line;
      over = way;
      at_end = g.met.A.LineAnswerer.ways.ends c.args.answerer.now c.answer.new.self houses way;
    } in
    let fails = fails_in_doubt course c.args.text.now (g.W.Sink.held c.args.out.now) c.in_err-told.field-0.0 doubt in
    search rules
