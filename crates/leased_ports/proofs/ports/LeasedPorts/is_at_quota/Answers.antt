use Rattle.std.proofs.Common.{◌≡◌, ℕ, ◌+◌, ◌<◌, ◌≤◌, ap, sym, subst, ◌∙◌, arith}
use Rattle.std.proofs.lemmas.Bool.{OnTrue_at, OnFalse_at}
use Rattle.leased_ports.specs.Leased.{Leased, as_settled}
use Rattle.leased_ports.specs.Plain.{held_now}
use Rattle.leased_ports.proofs.PlainLemmas.{below-quota, at-quota}
use Rattle.leased_ports.proofs.ports.LeasedPorts.is_at_quota.Goals as goal

-- all that is due is seen to, and nothing else changes
moved : (v w : Leased) → w ≡ as_settled v → w ≡ record v { settled = w.settled }
moved v w is = is ∙ ap (λ (n : ℕ). record v { settled = n }) (sym (ap (λ (x : Leased). x.settled) is))

pub returns-then-is_below_quota-clause-quota : goal.returns-then-is_below_quota-clause-quota
returns-then-is_below_quota-clause-quota g c terms s reached ports on =
    let yes = OnTrue_at c.if-is_below_quota.true c.is_below_quota.ensures.yes in
    below-quota c.args.self.now c.args.who.now (omega (arith, yes)) terms s reached ports on

pub room_left-requires : goal.room_left-requires
room_left-requires g c = record { settled = ap (λ (v : Leased). v.settled) c.settle.ensures.settled ∙ sym (ap (λ (v : Leased). v.reached) c.settle.ensures.settled) }

pub returns-in-Ok-clause-moved : goal.returns-in-Ok-clause-moved
returns-in-Ok-clause-moved g c = moved c.args.self.now c.settle.new.self c.settle.ensures.settled

pub returns-in-Err-clause-moved : goal.returns-in-Err-clause-moved
returns-in-Err-clause-moved g c = moved c.args.self.now c.settle.new.self c.settle.ensures.settled

pub returns-in-Ok-clause-quota : goal.returns-in-Ok-clause-quota
returns-in-Ok-clause-quota g c terms s reached ports on =
    below-quota (as_settled c.args.self.now) c.args.who.now
    (subst (λ (v : Leased). held_now v c.args.who.now < v.quota) c.settle.ensures.settled c.in-Ok.ensures.below)
    terms s reached (record { passed = ports.passed; same = ports.same }) (record { low = on.low; high = on.high; quota = on.quota })

pub returns-in-Err-clause-quota : goal.returns-in-Err-clause-quota
returns-in-Err-clause-quota g c terms s reached ports on =
    at-quota (as_settled c.args.self.now) c.args.who.now
    (subst (λ (v : Leased). v.quota ≤ held_now v c.args.who.now) c.settle.ensures.settled
    (let owns = c.in-Err.ensures.owned in let full = c.in-Err.ensures.full in
    let same = ap (λ (v : Leased). v.quota) c.settle.ensures.settled in omega (arith, owns, full, same)))
    terms s reached (record { passed = ports.passed; same = ports.same }) (record { low = on.low; high = on.high; quota = on.quota })

pub returns-in-Ok-clause-plain : goal.returns-in-Ok-clause-plain
returns-in-Ok-clause-plain g c below =
    let full = OnFalse_at c.if-is_below_quota.false c.is_below_quota.ensures.no in absurd (omega (arith, below, full))

pub returns-in-Err-clause-plain : goal.returns-in-Err-clause-plain
returns-in-Err-clause-plain g c below =
    let full = OnFalse_at c.if-is_below_quota.false c.is_below_quota.ensures.no in absurd (omega (arith, below, full))

pub returns-in-Ok-clause-kept : goal.returns-in-Ok-clause-kept
returns-in-Ok-clause-kept g c below =
    let full = OnFalse_at c.if-is_below_quota.false c.is_below_quota.ensures.no in absurd (omega (arith, below, full))

pub returns-in-Err-clause-kept : goal.returns-in-Err-clause-kept
returns-in-Err-clause-kept g c below =
    let full = OnFalse_at c.if-is_below_quota.false c.is_below_quota.ensures.no in absurd (omega (arith, below, full))
