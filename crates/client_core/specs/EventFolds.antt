-- What a want is after its events, read off their list (RFC 6887, sections 8.1.1, 8.3, 8.5, 11.2.1 and 14.1.3). The
-- list has the latest event first; times are in milliseconds.
use Rattle.std.specs.Prelude.{ℕ, ◌≡◌, ◌+◌, ◌-◌, ◌*◌, ◌/◌, ◌%◌, ◌^◌, max, Bool, true, false, List, [], ◌∷◌, fold, Option, Some, None, if◌then◌else◌}
use Rattle.pcp_base.specs.declared.addresses.Address.{Address}
use Rattle.pcp_base.specs.declared.asks.Ask.{Ask}
use Rattle.client_core.specs.declared.events.HeldLease.{HeldLease}
use Rattle.client_core.specs.declared.events.Grant.{Grant}
use Rattle.client_core.specs.declared.events.Event.{Event}
use Rattle.client_core.specs.declared.events.Event.TheVariants.{Sent, Taken, Refused, Ended, Dropped, Invalid}
use Rattle.client_core.specs.Waits.{wait_after}
use Rattle.client_core.specs.Wants.{WantView, after_all, anew_at, begun_want, by_end, deletion_of, due, lasting, lease_of, next_ask, suggesting}

-- The lease: that of the last success, until it is dropped.
abbrev pub lease_by : List Event → Option HeldLease
lease_by [] = None
lease_by (Taken at word grant ∷ before) = Some (lease_of at grant)
lease_by (Dropped ∷ before) = None
lease_by (Sent at word ∷ before) = lease_by before
lease_by (Refused at seconds ∷ before) = lease_by before
lease_by (Ended at ∷ before) = lease_by before
lease_by (Invalid at word ∷ before) = lease_by before

-- whether it is to be deleted
abbrev pub is_ended : List Event → Bool
is_ended [] = false
is_ended (Ended at ∷ before) = true
is_ended (Sent at word ∷ before) = is_ended before
is_ended (Taken at word grant ∷ before) = is_ended before
is_ended (Refused at seconds ∷ before) = is_ended before
is_ended (Dropped ∷ before) = is_ended before
is_ended (Invalid at word ∷ before) = is_ended before

-- what is asked for: as at first, with the port and the address of the last success as the suggestion
abbrev pub suggestion_by : Ask → List Event → Ask
suggestion_by ask [] = ask
suggestion_by ask (Taken at word grant ∷ before) =
    suggesting (suggestion_by ask before) grant.external grant.address
suggestion_by ask (Sent at word ∷ before) = suggestion_by ask before
suggestion_by ask (Refused at seconds ∷ before) = suggestion_by ask before
suggestion_by ask (Ended at ∷ before) = suggestion_by ask before
suggestion_by ask (Dropped ∷ before) = suggestion_by ask before
suggestion_by ask (Invalid at word ∷ before) = suggestion_by ask before

abbrev pub next_ask_by : Ask → List Event → Ask
next_ask_by ask events =
    if is_ended events then deletion_of (suggestion_by ask events) else suggestion_by ask events

-- The success since which nothing was sent but renewals, and how many of these; none where the want is asked for.
pub record Renewing : Type 0 where
  pub at : ℕ
  pub grant : Grant
  pub sent : ℕ

abbrev pub one_more_sent : Option Renewing → Option Renewing
one_more_sent None = None
one_more_sent (Some r) = Some (record r { sent = r.sent + 1 })

abbrev pub renewing_by : List Event → Option Renewing
renewing_by (Taken at word grant ∷ before) = Some (record { at = at; grant = grant; sent = 0 })
renewing_by (Sent at word ∷ before) = one_more_sent (renewing_by before)
renewing_by events = None

-- The wait that the last request began; 0 where there is none, since a renewal begins none.
abbrev pub wait_unless : Option Renewing → ℕ → ℕ
wait_unless None wait = wait
wait_unless (Some r) wait = 0

abbrev pub wait_by : List Event → ℕ
wait_by (Sent at word ∷ before) =
    wait_unless (renewing_by before) (wait_after (wait_by before) word)
wait_by events = 0

-- whether an error's time is what is waited for
abbrev pub waits_out_error : List Event → Bool
waits_out_error (Refused at seconds ∷ before) = true
waits_out_error (Dropped ∷ before) = waits_out_error before
waits_out_error events = false

-- Renewal j + 1, behind the j that were sent: with L the lifetime, L - L/2^(j+1) after the success, and up to
-- (L/2^(j+3)) later (section 11.2.1).
abbrev pub renewal_after : Renewing → ℕ → ℕ
renewal_after r word =
    r.at + lasting r.grant - lasting r.grant / 2 ^ (r.sent + 1)
    + lasting r.grant / 2 ^ (r.sent + 3) * (word % 65536) / 65536

-- the time after a request: when its wait passes, or the next renewal comes
abbrev pub time_after : Option Renewing → ℕ → ℕ → ℕ → ℕ
time_after None at wait word = at + wait
time_after (Some r) at wait word =
    max (at + 4000) (renewal_after (record r { sent = r.sent + 1 }) word)

-- When it is asked for next, but for the end of its lease: at once where it is wanted or is to be deleted; within five
-- seconds where an epoch was invalid; after an error when its time is over; else by the waits, or the renewals. Without
-- its lease, when it was due.
abbrev pub time_by : ℕ → List Event → ℕ
time_by start [] = start
time_by start (Sent at word ∷ before) =
    time_after (renewing_by before) at (wait_after (wait_by before) word) word
time_by start (Taken at word grant ∷ before) =
    renewal_after (record { at = at; grant = grant; sent = 0 }) word
time_by start (Refused at seconds ∷ before) = at + 1000 * max 4 seconds
time_by start (Ended at ∷ before) = at
time_by start (Invalid at word ∷ before) = anew_at at word
time_by start (Dropped ∷ before) =
    if waits_out_error before then time_by start before
    else by_end (lease_by before) (time_by start before)

-- when it is due: then, or at the end of its lease, which doesn't end an error's time
abbrev pub due_after : ℕ → List Event → ℕ
due_after start events =
    if waits_out_error events then time_by start events
    else by_end (lease_by events) (time_by start events)

-- a want that began, and had these events, is due, holds and asks as their list says
pub record FollowsEvents (third : Option Address) (ask : Ask) (start : ℕ) (events : List Event)
    (w : WantView) : Type 0 where
  pub is_for : w.third ≡ third
  pub is_due : due w ≡ due_after start events
  pub holds : w.lease ≡ lease_by events
  pub asks : next_ask w ≡ next_ask_by ask events

abbrev pub latest_first : List Event → List Event
latest_first events = fold (λ before event. event ∷ before) [] events

abbrev pub WantsFollowTheirEvents : Type 0
WantsFollowTheirEvents =
    (third : Option Address) (ask : Ask) (start : ℕ) (events : List Event)
    → FollowsEvents third ask start (latest_first events)
    (after_all (begun_want third ask start) events)
