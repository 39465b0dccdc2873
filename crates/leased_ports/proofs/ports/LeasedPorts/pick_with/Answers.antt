use Rattle.std.proofs.Common.{◌≡◌, ◌+◌, ◌*◌, ◌≤◌, true, Option, Some, None, IfSome, IfOk, refl, sym, ◌∙◌, subst, arith}
use Rattle.std.proofs.lemmas.Bool.{OnTrue_at, OnFalse_at, OnTrue_from}
use Rattle.external_pool.specs.declared.asks.Picked.{Picked}
use Rattle.external_pool.specs.Choosing.IsPick.{suggestion, longest}
use Rattle.leased_ports.specs.Counts.{due_before}
use Rattle.leased_ports.proofs.BackLemmas.{plain-parts}
use Rattle.leased_ports.proofs.PlainLemmas.{picked-now, answer-ok}
use Rattle.leased_ports.proofs.ports.LeasedPorts.pick_with.Goals as goal

pub returns-then-goes_back-clause-pick : goal.returns-then-goes_back-clause-pick
returns-then-goes_back-clause-pick g c terms s reached ports on =
    let ask = c.args.ask.now in
    let some = OnTrue_at c.if-goes_back.true c.goes_back.ensures.some in
    let back = OnTrue_at c.if-goes_back.true c.goes_back.ensures.back in
    c.judge.ensures ∙ picked-now c.args.self.now c.args.endpoint.now ask c.requires.internal c.args.room (Some (record { start = ask.suggested; count = c.args.room })) c.requires.below c.requires.room
    (suggestion some back refl) terms s reached ports on c.requires.ask

pub returns-clause-pick : goal.returns-clause-pick
returns-clause-pick g c terms s reached ports on =
    let other = OnFalse_at c.if-goes_back.false c.goes_back.ensures.other in
    c.judge-2.ensures ∙ picked-now c.args.self.now c.args.endpoint.now c.args.ask.now c.requires.internal c.args.room c.longest-choice.result c.requires.below c.requires.room
    (longest other c.longest-choice.ensures.longest) terms s reached ports on c.requires.ask

pub returns-then-goes_back-clause-steps : goal.returns-then-goes_back-clause-steps
returns-then-goes_back-clause-steps g c = let few = c.goes_back.ensures.steps in let room = c.requires.room in omega (arith, few, room)

pub returns-clause-steps : goal.returns-clause-steps
returns-clause-steps g c =
    let few = c.goes_back.ensures.steps in let found = c.longest-choice.ensures.steps in let room = c.requires.room in
    omega (arith, few, found, room)

pub returns-then-goes_back-clause-near : goal.returns-then-goes_back-clause-near
returns-then-goes_back-clause-near g c =
    let few = c.goes_back.ensures.steps in
    subst (λ x. IfOk x (λ run. run.count ≡ c.args.room → c.goes_back.new.steps ≤ c.args.steps.now + 113 + c.args.room + 279 * due_before c.args.self.now c.args.endpoint.now.protocol (run.start + run.count))) (sym c.judge.ensures)
    (answer-ok c.args.ask.now (Some (record { start = c.args.ask.now.suggested; count = c.args.room })) _ (λ full. omega (arith, few)))

pub returns-clause-near : goal.returns-clause-near
returns-clause-near g c =
    let few = c.goes_back.ensures.steps in
    subst (λ x. IfOk x (λ run. run.count ≡ c.args.room → c.longest-choice.new.steps ≤ c.args.steps.now + 113 + c.args.room + 279 * due_before c.args.self.now c.args.endpoint.now.protocol (run.start + run.count))) (sym c.judge-2.ensures)
    (answer-ok c.args.ask.now c.longest-choice.result _ (by c.longest-choice.result c.longest-choice.ensures.near))
  where
    by : (o : Option Picked) → IfSome o (λ run. run.count ≡ c.args.room → c.longest-choice.new.steps ≤ c.goes_back.new.steps + 113 + 279 * due_before c.args.self.now c.args.endpoint.now.protocol (run.start + run.count))
        → IfSome o (λ run. run.count ≡ c.args.room → c.longest-choice.new.steps ≤ c.args.steps.now + 113 + c.args.room + 279 * due_before c.args.self.now c.args.endpoint.now.protocol (run.start + run.count))
    by None h = tt
    by (Some run) h = λ full. let told = h full in let few = c.goes_back.ensures.steps in omega (arith, told, few)

pub returns-then-goes_back-clause-plain : goal.returns-then-goes_back-clause-plain
returns-then-goes_back-clause-plain g c = OnTrue_from _ _ (λ t.
    let is = plain-parts c.args.ask.now.room c.args.ask.now.parity t in
    let few = c.goes_back.ensures.steps in let room = c.requires.room in
    omega (arith, few, room, is.0))

pub returns-clause-plain : goal.returns-clause-plain
returns-clause-plain g c = OnTrue_from _ _ (λ t.
    let is = plain-parts c.args.ask.now.room c.args.ask.now.parity t in
    let below = c.requires.below in
    let one : c.args.room ≡ 1 = (let room = c.requires.room in omega (arith, room, is.0, below)) in
    let found = c.longest-choice.ensures.plain one is.1 in
    let few = c.goes_back.ensures.steps in
    omega (arith, few, found, one))
