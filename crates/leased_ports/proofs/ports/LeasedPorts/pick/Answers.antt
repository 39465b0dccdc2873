use Rattle.std.proofs.Common.{◌≡◌, ℕ, ◌+◌, ◌*◌, ◌<◌, ◌≤◌, ◌-◌, Result, Ok, Err, IfOk, ap, sym, ◌∙◌, arith}
use Rattle.std.proofs.lemmas.Bool.{OnTrue_at, OnFalse_at, OnTrue_from}
use Rattle.external_pool.specs.declared.asks.Picked.{Picked}
use Rattle.external_pool.specs.declared.asks.PickRefused.{PickRefused}
use Rattle.leased_ports.specs.Leased.{Leased}
use Rattle.leased_ports.specs.Counts.{due_before, held_since}
use Rattle.leased_ports.proofs.BackLemmas.{plain-parts}
use Rattle.leased_ports.proofs.ports.LeasedPorts.pick.Goals as goal

ok-always : (x : Result Picked PickRefused) (P : Picked → Type 0) → ((run : Picked) → P run) → IfOk x P
ok-always (Ok run) P h = h run
ok-always (Err e) P h = tt

pub returns-then-not-has_room-clause-moved : goal.returns-then-not-has_room-clause-moved
returns-then-not-has_room-clause-moved g c =
    let is = c.pick_settled.ensures.settled in
    is ∙ ap (λ (n : ℕ). record c.args.self.now { settled = n }) (sym (ap (λ (v : Leased). v.settled) is))

pub returns-then-not-has_room-clause-from : goal.returns-then-not-has_room-clause-from
returns-then-not-has_room-clause-from g c = c.pick_settled.ensures.from

pub returns-then-not-has_room-clause-plain : goal.returns-then-not-has_room-clause-plain
returns-then-not-has_room-clause-plain g c = OnTrue_from _ (held_since c.args.self.now c.args.endpoint.now.address < c.args.self.now.quota → c.pick_settled.new.steps ≤ c.args.steps.now + 178) (λ t below.
    let is = plain-parts c.args.ask.now.room c.args.ask.now.parity t in
    let full = OnFalse_at c.if-not-has_room.true c.has_room.ensures.no in
    absurd (omega (arith, is.0, below, full)))

pub returns-then-not-has_room-clause-kept : goal.returns-then-not-has_room-clause-kept
returns-then-not-has_room-clause-kept g c = OnTrue_from _ (held_since c.args.self.now c.args.endpoint.now.address < c.args.self.now.quota → c.pick_settled.new.self ≡ c.args.self.now) (λ t below.
    let is = plain-parts c.args.ask.now.room c.args.ask.now.parity t in
    let full = OnFalse_at c.if-not-has_room.true c.has_room.ensures.no in
    absurd (omega (arith, is.0, below, full)))

pub returns-then-not-has_room-clause-near : goal.returns-then-not-has_room-clause-near
returns-then-not-has_room-clause-near g c =
    let full = OnFalse_at c.if-not-has_room.true c.has_room.ensures.no in
    ok-always c.pick_settled.result _ (λ run below count. absurd (omega (arith, below, full)))

pub pick_with-requires-clause-below : goal.pick_with-requires-clause-below
pick_with-requires-clause-below g c =
    let yes = OnTrue_at c.if-not-has_room.false c.has_room.ensures.yes in
    let some = c.requires.ask.room in
    omega (arith, yes, some)

pub pick_with-requires-clause-room : goal.pick_with-requires-clause-room
pick_with-requires-clause-room g c =
    let yes = OnTrue_at c.if-not-has_room.false c.has_room.ensures.yes in
    omega (arith, yes)

pub returns-clause-moved : goal.returns-clause-moved
returns-clause-moved g c =
    let is = c.pick_with.ensures.same in
    is ∙ ap (λ (n : ℕ). record c.args.self.now { settled = n }) (sym (ap (λ (v : Leased). v.settled) is))

pub returns-clause-from : goal.returns-clause-from
returns-clause-from g c =
    let same : c.pick_with.new.self.settled ≡ c.args.self.now.settled = ap (λ (v : Leased). v.settled) c.pick_with.ensures.same in
    omega (arith, same)

pub returns-clause-plain : goal.returns-clause-plain
returns-clause-plain g c = OnTrue_from _ (held_since c.args.self.now c.args.endpoint.now.address < c.args.self.now.quota → c.pick_with.new.steps ≤ c.args.steps.now + 178) (λ t below.
    let room = c.has_room.ensures.steps in
    let picked = OnTrue_at t c.pick_with.ensures.plain in
    omega (arith, room, picked))

pub returns-clause-kept : goal.returns-clause-kept
returns-clause-kept g c = OnTrue_from _ (held_since c.args.self.now c.args.endpoint.now.address < c.args.self.now.quota → c.pick_with.new.self ≡ c.args.self.now) (λ t below. c.pick_with.ensures.same)

pub returns-clause-near : goal.returns-clause-near
returns-clause-near g c = by c.pick_with.result c.pick_with.ensures.near
  where
    by : (x : Result Picked PickRefused) → IfOk x (λ run. run.count ≡ c.args.ask.now.room → c.pick_with.new.steps ≤ c.has_room.new.steps + 113 + c.args.ask.now.room + 279 * due_before c.args.self.now c.args.endpoint.now.protocol (run.start + run.count))
        → IfOk x (λ run. held_since c.args.self.now c.args.endpoint.now.address + c.args.ask.now.room ≤ c.args.self.now.quota → run.count ≡ c.args.ask.now.room → c.pick_with.new.steps ≤ c.args.steps.now + 178 + c.args.ask.now.room + 279 * due_before c.args.self.now c.args.endpoint.now.protocol (run.start + run.count))
    by (Ok run) h = λ below count. let told = h count in let room = c.has_room.ensures.steps in omega (arith, told, room)
    by (Err e) h = tt
