-- A want after its events is read off their list.
use Rattle.std.proofs.Common.{◌≡◌, ℕ, ◌+◌, ◌-◌, ◌*◌, ◌/◌, ◌%◌, ◌^◌, max, Bool, true, false, cond, List, [], ◌∷◌, Option, Some, None, refl, ap, sym, ◌∙◌, subst, arith}
use Rattle.std.specs.List.{fold}
use Rattle.std.proofs.Math.Nat.{div-div-eq-div-mul}
use Rattle.std.proofs.lemmas.Nat.{pow-add}
use Rattle.pcp_base.specs.declared.addresses.Address.{Address}
use Rattle.pcp_base.specs.declared.asks.Ask.{Ask}
use Rattle.client_core.specs.declared.events.HeldLease.{HeldLease}
use Rattle.client_core.specs.declared.events.Grant.{Grant}
use Rattle.client_core.specs.declared.events.Event.{Event}
use Rattle.client_core.specs.declared.events.Event.TheVariants.{Sent, Taken, Refused, Ended, Dropped, Invalid}
use Rattle.client_core.specs.declared.reasons.Reason.{Reason}
use Rattle.client_core.specs.declared.reasons.Reason.TheVariants.{Wait, Renewal, Error}
use Rattle.client_core.specs.Waits.{wait_after}
use Rattle.client_core.specs.Wants.{WantView, after, after_all, after_sent, by_end, due_by, lasting, lease_end, lease_of, renewal_at, without_lease}
use Rattle.client_core.specs.EventFolds.{FollowsEvents, Renewing, WantsFollowTheirEvents, is_ended, latest_first, lease_by, one_more_sent, renewal_after, renewing_by, suggestion_by, time_after, time_by, wait_by, wait_unless, waits_out_error}

-- why it is asked for next
abbrev reason_of : Option Renewing → ℕ → Reason
reason_of None wait = Wait wait
reason_of (Some r) wait = Renewal (lasting r.grant / 2 ^ (r.sent + 1))

abbrev reason_by : List Event → Reason
reason_by before = cond (waits_out_error before) Error (reason_of (renewing_by before) (wait_by before))

-- the whole want
abbrev state_by : Option Address → Ask → ℕ → List Event → WantView
state_by third ask start before = record {
  third = third;
  ask = suggestion_by ask before;
  ending = is_ended before;
  lease = lease_by before;
  reason = reason_by before;
  time = time_by start before;
}

-- while an error's time lasts nothing is renewed, and no wait goes on
resting-plain : (before : List Event) → waits_out_error before ≡ true → (renewing_by before ≡ None) × (wait_by before ≡ 0)
resting-plain [] h = absurd cc
resting-plain (Sent at word ∷ before) h = absurd cc
resting-plain (Taken at word grant ∷ before) h = absurd cc
resting-plain (Refused at seconds ∷ before) h = (refl, refl)
resting-plain (Ended at ∷ before) h = absurd cc
resting-plain (Dropped ∷ before) h = (refl, refl)
resting-plain (Invalid at word ∷ before) h = absurd cc

-- a lease that is renewed is that of the success
renewed-lease-by : (o : Option Renewing) (lease : Option HeldLease) → ((r : Renewing) → o ≡ Some r → lease ≡ Some (lease_of r.at r.grant)) → (r : Renewing) → one_more_sent o ≡ Some r → lease ≡ Some (lease_of r.at r.grant)
renewed-lease-by None lease h r e = absurd cc
renewed-lease-by (Some q) lease h r e =
    let same : record q { sent = q.sent + 1 } ≡ r = cc in
    h q refl ∙ ap (λ x. Some (lease_of x.at x.grant)) same

renewed-lease : (before : List Event) (r : Renewing) → renewing_by before ≡ Some r → lease_by before ≡ Some (lease_of r.at r.grant)
renewed-lease [] r e = absurd cc
renewed-lease (Sent at word ∷ before) r e = renewed-lease-by (renewing_by before) (lease_by before) (renewed-lease before) r e
renewed-lease (Taken at word grant ∷ before) r e =
    let begins : Renewing = record { at = at; grant = grant; sent = 0 } in
    let same : begins ≡ r = cc in
    ap (λ x. Some (lease_of x.at x.grant)) same
renewed-lease (Refused at seconds ∷ before) r e = absurd cc
renewed-lease (Ended at ∷ before) r e = absurd cc
renewed-lease (Dropped ∷ before) r e = absurd cc
renewed-lease (Invalid at word ∷ before) r e = absurd cc

-- halves of a part of a lifetime
halved : (l n : ℕ) → l / 2 ^ n / 2 ≡ l / 2 ^ (n + 1)
halved l n = div-div-eq-div-mul l (2 ^ n) 2 ∙ ap (λ k. l / k) (sym (pow-add 2 n 1))

quartered : (l n : ℕ) → l / 2 ^ n / 4 ≡ l / 2 ^ (n + 2)
quartered l n = div-div-eq-div-mul l (2 ^ n) 4 ∙ ap (λ k. l / k) (sym (pow-add 2 n 2))

abbrev renewal_with : Renewing → ℕ → ℕ → ℕ → ℕ
renewal_with r part quarter word = r.at + lasting r.grant - part + quarter * (word % 65536) / 65536

-- the time of a renewal, by the part of the lifetime that is left
renewal-is : (r : Renewing) (part word : ℕ) → part ≡ lasting r.grant / 2 ^ (r.sent + 1) → renewal_at (r.at + lasting r.grant) part word ≡ renewal_after r word
renewal-is r part word e =
    let plus : r.sent + 1 + 2 ≡ r.sent + 3 = omega arith in
    let quarter : part / 4 ≡ lasting r.grant / 2 ^ (r.sent + 3) =
    ap (λ p. p / 4) e ∙ quartered (lasting r.grant) (r.sent + 1) ∙ ap (λ k. lasting r.grant / 2 ^ k) plus in
    ap (λ q. renewal_with r part q word) quarter ∙ ap (λ p. renewal_with r p (lasting r.grant / 2 ^ (r.sent + 3)) word) e

abbrev next_of : Renewing → Renewing
next_of r = record r { sent = r.sent + 1 }

abbrev timed : WantView → Reason → ℕ → WantView
timed w reason time = record w { reason = reason; time = time }

-- after a request, by what was waited for
sent-is : (w : WantView) (at word wait : ℕ) (rest : Bool) (renewing : Option Renewing)
    → (rest ≡ true → (renewing ≡ None) × (wait ≡ 0))
    → ((r : Renewing) → renewing ≡ Some r → w.lease ≡ Some (lease_of r.at r.grant))
    → after_sent w at word (cond rest Error (reason_of renewing wait))
    ≡ timed w (reason_of (one_more_sent renewing) (wait_unless renewing (wait_after wait word))) (time_after renewing at (wait_after wait word) word)
sent-is w at word wait true None plain lease =
    let none : wait ≡ 0 = (plain refl).1 in
    rw none refl
sent-is w at word wait true (Some r) plain lease = let e : Some r ≡ None = (plain refl).0 in absurd cc
sent-is w at word wait false None plain lease = refl
sent-is w at word wait false (Some r) plain lease =
    let end : lease_end w.lease ≡ r.at + lasting r.grant = ap lease_end (lease r refl) in
    let half = halved (lasting r.grant) (r.sent + 1) in
    ap (λ u. timed w (Renewal (lasting r.grant / 2 ^ (r.sent + 1) / 2)) (max (at + 4000) (renewal_at u (lasting r.grant / 2 ^ (r.sent + 1) / 2) word))) end
    ∙ ap (λ t. timed w (Renewal (lasting r.grant / 2 ^ (r.sent + 1) / 2)) (max (at + 4000) t)) (renewal-is (next_of r) (lasting r.grant / 2 ^ (r.sent + 1) / 2) word half)
    ∙ ap (λ p. timed w (Renewal p) (max (at + 4000) (renewal_after (next_of r) word))) half

taken-is : (third : Option Address) (ask : Ask) (start : ℕ) (before : List Event) (at word : ℕ) (grant : Grant) → after (state_by third ask start before) (Taken at word grant) ≡ state_by third ask start (Taken at word grant ∷ before)
taken-is third ask start before at word grant =
    let w = state_by third ask start (Taken at word grant ∷ before) in
    let r : Renewing = record { at = at; grant = grant; sent = 0 } in
    ap (λ t. timed w (Renewal (lasting grant / 2)) t) (renewal-is r (lasting grant / 2) word refl)

abbrev dropped_with : WantView → Reason × ℕ → WantView
dropped_with w p = record w { lease = None; reason = p.0; time = p.1 }

without-is : (rest : Bool) (renewing : Option Renewing) (wait time : ℕ) (lease : Option HeldLease)
    → without_lease (cond rest Error (reason_of renewing wait)) lease time
    ≡ (cond rest Error (Wait 0), cond rest time (by_end lease time))
without-is true renewing wait time lease = refl
without-is false None wait time lease = refl
without-is false (Some r) wait time lease = refl

-- one event more
one-event : (third : Option Address) (ask : Ask) (start : ℕ) (before : List Event) (event : Event) → after (state_by third ask start before) event ≡ state_by third ask start (event ∷ before)
one-event third ask start before (Sent at word) =
    sent-is (state_by third ask start before) at word (wait_by before) (waits_out_error before) (renewing_by before) (resting-plain before) (renewed-lease before)
one-event third ask start before (Taken at word grant) = taken-is third ask start before at word grant
one-event third ask start before (Refused at seconds) = refl
one-event third ask start before (Ended at) = refl
one-event third ask start before Dropped =
    ap (dropped_with (state_by third ask start before)) (without-is (waits_out_error before) (renewing_by before) (wait_by before) (time_by start before) (lease_by before))
one-event third ask start before (Invalid at word) = refl

all-events : (third : Option Address) (ask : Ask) (start : ℕ) (before events : List Event) → after_all (state_by third ask start before) events ≡ state_by third ask start (fold (λ past event. event ∷ past) before events)
all-events third ask start before [] = refl
all-events third ask start before (event ∷ events) =
    ap (λ w. after_all w events) (one-event third ask start before event) ∙ all-events third ask start (event ∷ before) events

due-is : (rest : Bool) (renewing : Option Renewing) (wait time : ℕ) (lease : Option HeldLease) → due_by (cond rest Error (reason_of renewing wait)) lease time ≡ cond rest time (by_end lease time)
due-is true renewing wait time lease = refl
due-is false None wait time lease = refl
due-is false (Some r) wait time lease = refl

state-is : (third : Option Address) (ask : Ask) (start : ℕ) (events : List Event) → FollowsEvents third ask start events (state_by third ask start events)
state-is third ask start events = record {
  is_for = refl;
  is_due = due-is (waits_out_error events) (renewing_by events) (wait_by events) (time_by start events) (lease_by events);
  holds = refl;
  asks = refl;
}

pub follow-events : WantsFollowTheirEvents
follow-events third ask start events =
    subst (FollowsEvents third ask start (latest_first events)) (sym (all-events third ask start [] events)) (state-is third ask start (latest_first events))
