use Rattle.std.proofs.Common.{rules, ◌≡◌, ◌++◌, Err, subst}
use Rattle.sha2.specs.Hashers.{Holds256}
use Rattle.script_player.specs.declared.answerers.AnswerFault.TheVariants.{Memory}
use Rattle.load_player.specs.LoadEnds.{load_course}
use Rattle.load_player.proofs.ServingLemmas.{fails_next, goes_on, stops, stops_before}
use Rattle.load_player.proofs.player.serve_next.Goals as goal

pub returns-in_err-request-clause-next : goal.returns-in_err-request-clause-next
returns-in_err-request-clause-next g c first plan n u more now =
    let same : c.from_residual.result ≡ Err Memory = search rules in
    let answerer = g.A.LoadAnswerer in
    fails_next (load_course answerer.effects answerer.house answerer.way first c.args.answerer.now) plan n _ c.from_residual.result Memory same
    (stops_before answerer.effects answerer.house answerer.way g.met.A.LoadAnswerer.ways first c.args.answerer.now plan n c.args.progress.now u more
    (g.met.A.LoadAnswerer.stays c.args.answerer.now c.requires.rests))

pub returns-in_err-told-clause-next : goal.returns-in_err-told-clause-next
returns-in_err-told-clause-next g c first plan n u more now =
    let same : c.from_residual-in_err-told.result ≡ Err c.in_err-told.field-0.0 = search rules in
    let answerer = g.A.LoadAnswerer in
    fails_next (load_course answerer.effects answerer.house answerer.way first c.serve.new.self) plan n _ c.from_residual-in_err-told.result c.in_err-told.field-0.0 same
    (stops answerer.effects answerer.house answerer.way g.met.A.LoadAnswerer.ways first c.args.answerer.now plan n c.args.progress.now u
    c.serve.new.self c.in_ok-request.request c.args.now (c.in_ok-request.ensures.request plan.number n u.next) now more c.in_err-told.ensures.way)

pub returns-clause-next : goal.returns-clause-next
returns-clause-next g c first plan n u more now =
    let answerer = g.A.LoadAnswerer in
    goes_on answerer.effects answerer.house answerer.way g.met.A.LoadAnswerer.ways first c.args.answerer.now plan n c.args.progress.now u
    c.serve.new.self _ c.in_ok-request.request c.args.now c.in_ok-told.told.kind c.in_ok-told.told.octets
    (c.in_ok-request.ensures.request plan.number n u.next) now (c.in_ok-request.ensures.moved plan.number n u.next)
    c.in_ok-told.ensures.kind c.in_ok-told.ensures.reply c.with-progress.ensures
    (λ m h. subst (λ octets. Holds256 c.update.new.self (m ++ octets)) c.items.ensures (c.update.ensures m h))
    c.in_ok-told.ensures.house c.in_ok-told.ensures.way
