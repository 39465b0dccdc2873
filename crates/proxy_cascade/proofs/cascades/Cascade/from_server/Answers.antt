use Rattle.std.proofs.Common.{◌≡◌, ℕ, Bool, Some, sym, ap, ◌∙◌, subst}
use Rattle.proxy_core.specs.Relays.{response_from}
use Rattle.proxy_cascade.specs.Cascades.{Cascade, Step, at}
use Rattle.proxy_cascade.specs.FromServers.{for_body, heard_from, keeps_epoch}
use Rattle.proxy_cascade.specs.Kept.{IsTime, cascade_of}
use Rattle.proxy_cascade.proofs.cascades.Cascade.from_server.Goals as goal

pub answer_server-requires-clause-time : goal.answer_server-requires-clause-time
answer_server-requires-clause-time c =
    subst IsTime (sym (ap (λ (x : Cascade). x.last) (c.hearing-terms.ensures c.self.inside.ties))) c.self.invariant.0.time

pub invariant_of-self-2 : goal.invariant_of-self-2
invariant_of-self-2 c = (
  record {
    time = subst IsTime (sym (ap (λ (x : Cascade). x.last) (c.hearing-terms.ensures c.self.inside.ties))) c.self.invariant.0.time;
    kept = c.in_ok-out.ensures.kept;
  },
  c.self.invariant.1,
)

pub returns-clause-ok : goal.returns-clause-ok
returns-clause-ok c =
    let here : Cascade = cascade_of c.self.inside.terms c.self.inside.ties in
    let now : at c.args.self.now c.args.now_ms ≡ here = ap (λ (s : Step ℕ). s.cascade) c.tick.ensures ∙ sym c.self.view_is in
    let read : response_from here.server c.args.datagram.now ≡ Some c.in-Some.response = sym c.in_ok-response.ensures ∙ c.in-Some.is in
    ap (λ (x : Cascade). heard_from x (response_from x.server c.args.datagram.now)) now
    ∙ ap (heard_from here) read
    ∙ ap (λ (x : Cascade). for_body x c.in-Some.response (keeps_epoch here.heard c.in-Some.response.epoch here.last) c.in-Some.response.body) (sym (c.hearing-terms.ensures c.self.inside.ties))
    ∙ ap (λ (v : Bool). for_body (cascade_of c.hearing-terms.result c.self.inside.ties) c.in-Some.response v c.in-Some.response.body) (sym c.keeps_epoch-valid.ensures)
    ∙ c.in_ok-out.ensures.ok
