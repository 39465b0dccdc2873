use Rattle.std.proofs.Common.{◌≡◌, ◌-◌, ap, sym, subst, ◌∙◌, arith}
use Rattle.lease_store.specs.Picks.{pick_answer}
use Rattle.leased_ports.specs.Leased.{as_settled, Leased, IsPortsOf, IsOnTerms}
use Rattle.leased_ports.proofs.EndedLemmas.{none-due}
use Rattle.leased_ports.proofs.PlainLemmas.{refused-now}
use Rattle.leased_ports.proofs.ports.LeasedPorts.pick_settled.Goals as goal

pub room_left-requires : goal.room_left-requires
room_left-requires g c = record { settled = ap (λ (v : Leased). v.settled) c.settle.ensures.settled ∙ sym (ap (λ (v : Leased). v.reached) c.settle.ensures.settled) }

pub returns-in-Ok-clause-pick : goal.returns-in-Ok-clause-pick
returns-in-Ok-clause-pick g c terms s reached ports on =
    let same = c.settle.ensures.settled in
    let own : IsPortsOf (as_settled c.args.self.now) s = record { passed = ports.passed; same = ports.same } in
    let terms_of : IsOnTerms (as_settled c.args.self.now) terms = record { low = on.low; high = on.high; quota = on.quota } in
    c.pick_with.ensures.pick terms s reached (subst (λ (v : Leased). IsPortsOf v s) (sym same) own) (subst (λ (v : Leased). IsOnTerms v terms) (sym same) terms_of)
    ∙ ap (λ (v : Leased). pick_answer terms s v.reached c.args.endpoint.now c.args.ask.now) same

pub returns-in-Err-clause-pick : goal.returns-in-Err-clause-pick
returns-in-Err-clause-pick g c terms s reached ports on =
    let same = c.settle.ensures.settled in
    let own : IsPortsOf (as_settled c.args.self.now) s = record { passed = ports.passed; same = ports.same } in
    let terms_of : IsOnTerms (as_settled c.args.self.now) terms = record { low = on.low; high = on.high; quota = on.quota } in
    refused-now c.settle.new.self c.args.endpoint.now c.args.ask.now c.requires.internal c.in-Err.owned c.in-Err.ensures.owned c.in-Err.ensures.full
    terms s reached (subst (λ (v : Leased). IsPortsOf v s) (sym same) own) (subst (λ (v : Leased). IsOnTerms v terms) (sym same) terms_of) c.requires.ask
    ∙ ap (λ (v : Leased). pick_answer terms s v.reached c.args.endpoint.now c.args.ask.now) same

pub returns-in-Ok-clause-settled : goal.returns-in-Ok-clause-settled
returns-in-Ok-clause-settled g c = c.pick_with.ensures.same ∙ c.settle.ensures.settled

pub returns-in-Ok-clause-steps : goal.returns-in-Ok-clause-steps
returns-in-Ok-clause-steps g c =
    let none = none-due c.settle.new.self (ap (λ (v : Leased). v.settled) c.settle.ensures.settled ∙ sym (ap (λ (v : Leased). v.reached) c.settle.ensures.settled)) in
    let settled = c.settle.ensures.steps in
    let left = c.in-Ok.ensures.steps in
    let picked = c.pick_with.ensures.steps in
    omega (arith, none, settled, left, picked)

pub returns-in-Ok-clause-from : goal.returns-in-Ok-clause-from
returns-in-Ok-clause-from g c =
    let from = c.settle.ensures.from in
    let same : c.pick_with.new.self.settled ≡ c.settle.new.self.settled = ap (λ (v : Leased). v.settled) c.pick_with.ensures.same in
    omega (arith, from, same)
