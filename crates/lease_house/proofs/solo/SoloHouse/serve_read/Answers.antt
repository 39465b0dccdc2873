use Rattle.std.specs.List.{slice_get}
use Rattle.std.specs.Option.{option_map}
use Rattle.std.proofs.Common.{◌≡◌, ◌∙◌, ℕ, List, Some, ap, sym, subst, rules}
use Rattle.std.proofs.lemmas.Result.{err_from_is_err_and}
use Rattle.pcp_base.specs.declared.configs.Config.{Config}
use Rattle.pcp_base.specs.declared.configs.External.{External}
use Rattle.pcp_base.specs.Epoch.{epoch_of}
use Rattle.lease_histories.specs.Entries.{reply_text_of, request_of}
use Rattle.lease_histories.specs.Routes.{route_of}
use Rattle.lease_house.specs.declared.faults.HouseFault.{HouseFault}
use Rattle.lease_house.specs.SoloCalls.{AnswersPacket, IsLineRefused, RefusesPacket, ask_records}
use Rattle.lease_house.proofs.BookLemmas.{weaker-causes}
use Rattle.lease_house.proofs.CallLemmas.{read-answers}
use Rattle.lease_house.proofs.PlainLemmas.{refuses-packet, routed-is, untold-packet}
use Rattle.lease_house.proofs.solo.SoloHouse.serve_read.Goals as goal

pub returns-in_err-answer-clause-refused : goal.returns-in_err-answer-clause-refused
returns-in_err-answer-clause-refused g c =
    let d = g.D.LeaseDisk in
    let from = c.args.datagram.now in
    let old = c.args.self.now in
    let r = c.args.request.now in
    let asked = routed-is (route_of old.config from) (request_of old.config from) r c.requires.read in
    let refused = refuses-packet d.tells d.moment d.left_since d.may_leave c.args.now from (record { ask = r.ask; items = r.items }) old c.answer.new.self c.in_err-answer.field-0.0 asked.0
    (subst (λ (p : ℕ). IsLineRefused d.tells d.moment d.left_since d.may_leave c.args.now p (ask_records c.args.now r.ask) old c.answer.new.self c.in_err-answer.field-0.0) asked.1
    c.in_err-answer.ensures.refused) in
    let p = err_from_is_err_and c.from_residual.result c.from_residual.ensures.1 in
    let same : c.in_err-answer.field-0.0 ≡ p.0 = cc (p.2) in
    rw p.1 (subst (λ (f : HouseFault). RefusesPacket d.tells d.moment d.left_since d.may_leave c.args.now from old c.answer.new.self f) same refused)

pub returns-in_err-answer-clause-cause : goal.returns-in_err-answer-clause-cause
returns-in_err-answer-clause-cause g c =
    weaker-causes g.D.LeaseDisk.faults _ _ c.args.self.now c.answer.new.self c.in_err-answer.ensures.cause (λ p failed. search rules)

pub returns-in_err-reply-clause-refused : goal.returns-in_err-reply-clause-refused
returns-in_err-reply-clause-refused g c =
    let d = g.D.LeaseDisk in
    let from = c.args.datagram.now in
    let old = c.args.self.now in
    let r = c.args.request.now in
    let asked = routed-is (route_of old.config from) (request_of old.config from) r c.requires.read in
    let answer = c.in_ok-answer.answer in
    let address = c.address_at-address.result in
    let there : option_map (λ (x : External). x.address) (slice_get old.config.externals r.place) ≡ Some address =
    subst (λ (k : Config). option_map (λ (x : External). x.address) (slice_get k.externals r.place) ≡ Some address) c.config.ensures.value c.address_at-address.ensures in
    let answers = read-answers d.tells d.seen d.moment d.left_since d.may_leave d.faults c.args.now from r old c.answer.new.self answer address c.requires.read there c.in_ok-answer.ensures.answered c.in_ok-answer.ensures.house in
    let p = err_from_is_err_and c.from_residual-in_err-reply.result c.from_residual-in_err-reply.ensures.1 in
    rw p.1 (untold-packet d.tells d.moment d.left_since d.may_leave c.args.now from (record { ask = r.ask; items = r.items }) old c.answer.new.self p.0 _ asked.0 p.2 answers)

pub returns-in_err-reply-clause-cause : goal.returns-in_err-reply-clause-cause
returns-in_err-reply-clause-cause g c =
    let p = err_from_is_err_and c.from_residual-in_err-reply.result c.from_residual-in_err-reply.ensures.1 in
    weaker-causes g.D.LeaseDisk.faults _ _ c.args.self.now c.answer.new.self c.in_ok-answer.ensures.cause (λ q failed. absurd (cc (p.1, p.2, failed)))

pub returns-clause-served : goal.returns-clause-served
returns-clause-served g c =
    let d = g.D.LeaseDisk in
    let from = c.args.datagram.now in
    let old = c.args.self.now in
    let r = c.args.request.now in
    let answer = c.in_ok-answer.answer in
    let address = c.address_at-address.result in
    let there : option_map (λ (x : External). x.address) (slice_get old.config.externals r.place) ≡ Some address =
    subst (λ (k : Config). option_map (λ (x : External). x.address) (slice_get k.externals r.place) ≡ Some address) c.config.ensures.value c.address_at-address.ensures in
    let answers = read-answers d.tells d.seen d.moment d.left_since d.may_leave d.faults c.args.now from r old c.answer.new.self answer address c.requires.read there c.in_ok-answer.ensures.answered c.in_ok-answer.ensures.house in
    let told = c.in_ok-reply.ensures ∙ ap (λ (o : List ℕ). reply_text_of o address r.items answer.answer (epoch_of answer.moment answer.base)) c.items-octets.ensures in
    subst (λ (t : List ℕ). AnswersPacket d.tells d.moment d.left_since d.may_leave c.args.now from old c.answer.new.self t) (sym told) answers

pub returns-clause-cause : goal.returns-clause-cause
returns-clause-cause g c =
    weaker-causes g.D.LeaseDisk.faults _ _ c.args.self.now c.answer.new.self c.in_ok-answer.ensures.cause (λ q failed. absurd (cc failed))
