-- One want of a client, and what each event makes of it (RFC 6887, sections 8.1.1, 8.3, 8.5, 11.2.1, 14.1.3 and 15; the
-- rounding is our own). Times are in milliseconds.
use Rattle.std.specs.Prelude.{ℕ, ◌+◌, ◌-◌, ◌*◌, ◌/◌, ◌%◌, ◌^◌, ◌<◌, ◌≤◌, nat_le, min, max, Bool, true, false, List, [], Option, Some, None, fold, if◌then◌else◌, ⊤}
use Rattle.pcp_base.specs.declared.addresses.Address.{Address}
use Rattle.pcp_base.specs.declared.asks.Ask.{Ask}
use Rattle.pcp_base.specs.declared.asks.Ask.TheVariants as Asks
use Rattle.pcp_options.specs.Requests.{CanBeWritten, request_text}
use Rattle.client_core.specs.declared.events.HeldLease.{HeldLease}
use Rattle.client_core.specs.declared.events.Grant.{Grant}
use Rattle.client_core.specs.declared.events.Event.{Event}
use Rattle.client_core.specs.declared.events.Event.TheVariants.{Sent, Taken, Refused, Ended, Dropped, Invalid}
use Rattle.client_core.specs.declared.reasons.Reason.{Reason}
use Rattle.client_core.specs.declared.reasons.Reason.TheVariants.{Wait, Renewal, Error}
use Rattle.client_core.specs.Waits.{wait_after}

pub record WantView : Type 0 where
  -- the host that it is for, where that isn't the client
  pub third : Option Address
  -- what is asked for, with what was granted last as its suggestion
  pub ask : Ask
  -- whether its lease is to be deleted
  pub ending : Bool
  pub lease : Option HeldLease
  -- why and when it is asked for next, unless its lease ends before
  pub reason : Reason
  pub time : ℕ

-- what can be wanted
abbrev pub CanBeWanted : Ask → Type 0
CanBeWanted (Asks.Known refusal) = ⊥
CanBeWanted Asks.Announce = ⊥
CanBeWanted (Asks.Map ask) = CanBeWritten (Asks.Map ask) × (0 < ask.lifetime)
CanBeWanted (Asks.Peer ask) = 0 < ask.lifetime

-- a want begins to be asked for at once
abbrev pub begun_want : Option Address → Ask → ℕ → WantView
begun_want third ask at =
    record { third = third; ask = ask; ending = false; lease = None; reason = Wait 0; time = at }

-- a time, or the end of the lease where that comes before
abbrev pub by_end : Option HeldLease → ℕ → ℕ
by_end None time = time
by_end (Some lease) time = min time lease.until_ms

-- When it is due: as it says, or at the end of its lease; but not before the end of an error's time.
abbrev pub due_by : Reason → Option HeldLease → ℕ → ℕ
due_by Error lease time = time
due_by (Wait wait) lease time = by_end lease time
due_by (Renewal part) lease time = by_end lease time

abbrev pub due : WantView → ℕ
due w = due_by w.reason w.lease w.time

-- whether its lease is over at a time
abbrev pub is_over_by : Option HeldLease → ℕ → Bool
is_over_by None at = false
is_over_by (Some lease) at = nat_le lease.until_ms at

abbrev pub is_over : WantView → ℕ → Bool
is_over w at = is_over_by w.lease at

-- A deletion has lifetime 0, no filters and no PREFER_FAILURE.
abbrev pub deletion_of : Ask → Ask
deletion_of (Asks.Map ask) = Asks.Map (record ask { lifetime = 0; prefer = false; filters = [] })
deletion_of (Asks.Peer ask) = Asks.Peer (record ask { lifetime = 0 })
deletion_of (Asks.Known refusal) = Asks.Known refusal
deletion_of Asks.Announce = Asks.Announce

-- what is asked for next, and the request
abbrev pub next_ask : WantView → Ask
next_ask w = if w.ending then deletion_of w.ask else w.ask

abbrev pub next_request : Address → WantView → List ℕ
next_request own w = request_text own w.third (next_ask w)

-- an ask that suggests this external port and address
abbrev pub suggesting : Ask → ℕ → Address → Ask
suggesting (Asks.Map ask) port address = Asks.Map (record ask { port = port; address = address })
suggesting (Asks.Peer ask) port address = Asks.Peer (record ask { port = port; address = address })
suggesting (Asks.Known refusal) port address = Asks.Known refusal
suggesting Asks.Announce port address = Asks.Announce

-- how long a grant lasts: as it tells, and at most a day
abbrev pub lasting : Grant → ℕ
lasting grant = 1000 * min grant.lifetime 86400

-- When a lease that ends at this time is renewed: when this part of its lifetime is left, less up to a quarter of that
-- (section 11.2.1). Of the j-th renewal it is the lifetime divided by 2^j.
abbrev pub renewal_at : ℕ → ℕ → ℕ → ℕ
renewal_at until part word = until - part + part / 4 * (word % 65536) / 65536

abbrev pub lease_end : Option HeldLease → ℕ
lease_end None = 0
lease_end (Some lease) = lease.until_ms

-- After a request there is a wait, that follows the one before; after a renewal the next renewal.
abbrev pub after_sent : WantView → ℕ → ℕ → Reason → WantView
after_sent w at word (Wait previous) =
    record w { reason = Wait (wait_after previous word); time = at + wait_after previous word }
after_sent w at word Error =
    record w { reason = Wait (wait_after 0 word); time = at + wait_after 0 word }
after_sent w at word (Renewal part) = record w {
  reason = Renewal (part / 2);
  time = max (at + 4000) (renewal_at (lease_end w.lease) (part / 2) word);
}

abbrev pub lease_of : ℕ → Grant → HeldLease
lease_of at grant = record {
  address = grant.address;
  external = grant.external;
  count = grant.count;
  until_ms = at + lasting grant;
}

abbrev pub after_taken : WantView → ℕ → ℕ → Grant → WantView
after_taken w at word grant = record {
  third = w.third;
  ask = suggesting w.ask grant.external grant.address;
  ending = w.ending;
  lease = Some (lease_of at grant);
  reason = Renewal (lasting grant / 2);
  time = renewal_at (at + lasting grant) (lasting grant / 2) word;
}

-- Without its lease it is asked for at once, unless an error's time lasts.
abbrev pub without_lease : Reason → Option HeldLease → ℕ → Reason × ℕ
without_lease Error lease time = (Error, time)
without_lease (Wait wait) lease time = (Wait 0, by_end lease time)
without_lease (Renewal part) lease time = (Wait 0, by_end lease time)

abbrev pub after_dropped : WantView → WantView
after_dropped w = record w {
  lease = None;
  reason = (without_lease w.reason w.lease w.time).0;
  time = (without_lease w.reason w.lease w.time).1;
}

-- When a want is asked for anew after an invalid epoch: within five seconds, as the word says (section 14.1.3).
abbrev pub anew_at : ℕ → ℕ → ℕ
anew_at at word = at + 5000 * (word % 65536) / 65536

-- what an event makes of a want
abbrev pub after : WantView → Event → WantView
after w (Sent at word) = after_sent w at word w.reason
after w (Taken at word grant) = after_taken w at word grant
after w (Refused at seconds) =
    record w { reason = Error; time = at + 1000 * max 4 seconds }
after w (Ended at) = record w { ending = true; reason = Wait 0; time = at }
after w Dropped = after_dropped w
after w (Invalid at word) = record w { reason = Wait 0; time = anew_at at word }

-- what its events make of a want, in order
abbrev pub after_all : WantView → List Event → WantView
after_all w events = fold after w events

-- the time of an event is one that a clock tells
abbrev pub IsTimely : Event → Type 0
IsTimely (Sent at word) = at < 1000 * 2 ^ 40
IsTimely (Taken at word grant) = at < 1000 * 2 ^ 40
IsTimely (Refused at seconds) = at < 1000 * 2 ^ 40
IsTimely (Ended at) = at < 1000 * 2 ^ 40
IsTimely Dropped = ⊤
IsTimely (Invalid at word) = at < 1000 * 2 ^ 40

-- what holds of each want that is kept
abbrev pub IsReason : Reason → Type 0
IsReason (Wait wait) = wait ≤ 1126400
IsReason (Renewal part) = part ≤ 1000 * 86400
IsReason Error = ⊤

pub record IsWant (w : WantView) : Type 0 where
  pub ask : CanBeWritten w.ask
  pub reason : IsReason w.reason
  pub lease : lease_end w.lease ≤ 1000 * 2 ^ 40 + 1000 * 86400
