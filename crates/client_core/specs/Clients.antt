-- A client: the want of each id, and what its calls, a datagram and a tick make of them (RFC 6887, sections 8.1 to 8.5 and
-- 14.1.3). Times are in milliseconds.
use Rattle.std.specs.Prelude.{ℕ, ◌≡◌, ◌+◌, ◌-◌, ◌*◌, ◌/◌, ◌^◌, ◌<◌, ◌==◌, ◌&&◌, not, nat_le, nat_lt, min, max, bytes_eq, Bool, false, List, [], ◌∷◌, map, length, position, is_none, slice_set, replicate, Option, Some, None, option_map, if◌then◌else◌}
use Rattle.pcp_base.specs.declared.addresses.Address.{Address}
use Rattle.pcp_base.specs.declared.asks.Ask.{Ask}
use Rattle.pcp_base.specs.declared.datagrams.Datagram.{Datagram}
use Rattle.pcp_options.specs.ReadResponses.{response_of}
use Rattle.client_core.specs.declared.epochs.HeardEpoch.{HeardEpoch}
use Rattle.client_core.specs.declared.events.HeldLease.{HeldLease}
use Rattle.client_core.specs.declared.events.Event.{Event}
use Rattle.client_core.specs.declared.events.Event.TheVariants as Events
use Rattle.client_core.specs.declared.meanings.Notice.{Notice}
use Rattle.client_core.specs.declared.meanings.Notice.TheVariants as Notices
use Rattle.client_core.specs.declared.meanings.Meaning.{Meaning}
use Rattle.client_core.specs.declared.meanings.Meaning.TheVariants.{Nothing, Says}
use Rattle.client_core.specs.declared.meanings.EpochFound.{EpochFound}
use Rattle.client_core.specs.declared.meanings.EpochFound.TheVariants as Epochs
use Rattle.client_core.specs.declared.meanings.What.{What}
use Rattle.client_core.specs.declared.meanings.What.TheVariants as Whats
use Rattle.client_core.specs.declared.meanings.Heard.{Heard}
use Rattle.client_core.specs.EpochTests.{heard_epoch, is_valid}
use Rattle.client_core.specs.Meanings.{said_in, want_at}
use Rattle.client_core.specs.Wants.{WantView, after, begun_want, due, is_over, next_request}

pub record ClientView : Type 0 where
  pub server : Address
  -- its own address
  pub own : Address
  -- the last time handed in
  pub last : ℕ
  -- the epoch heard last
  pub heard : Option HeardEpoch
  -- when an invalid epoch last moved what is due
  pub moved : Option ℕ
  -- the want of each id
  pub wants : List (Option WantView)

-- a client that wants nothing
abbrev pub idle : Address → Address → ClientView
idle server own = record {
  server = server;
  own = own;
  last = 0;
  heard = None;
  moved = None;
  wants = replicate 64 None;
}

-- a time that is smaller than the last one handed in counts as that one
abbrev pub counted : ClientView → ℕ → ℕ
counted c now = max c.last now

-- the lease of a want, and of the want of an id
abbrev pub lease_in : Option WantView → Option HeldLease
lease_in None = None
lease_in (Some w) = w.lease

abbrev pub held_by : ClientView → ℕ → Option HeldLease
held_by c id = lease_in (want_at c.wants id)

-- how many wants are kept
abbrev pub want_count_in : List (Option WantView) → ℕ
want_count_in [] = 0
want_count_in (None ∷ wants) = want_count_in wants
want_count_in (Some w ∷ wants) = want_count_in wants + 1

abbrev pub want_count : ClientView → ℕ
want_count c = want_count_in c.wants

-- an event happens to the want of an id, or to all
abbrev pub happened : Event → Option WantView → Option WantView
happened event want = option_map (λ w. after w event) want

abbrev pub happened_at : List (Option WantView) → ℕ → Event → List (Option WantView)
happened_at wants id event = slice_set wants id (happened event (want_at wants id))

-- A new want has the least id that is free.
abbrev pub free_id : ClientView → Option ℕ
free_id c = position is_none c.wants

abbrev pub after_want : ClientView → ℕ → Option Address → Ask → ℕ → ClientView
after_want c id third ask now = record c {
  last = counted c now;
  wants = slice_set c.wants id (Some (begun_want third ask (counted c now)));
}

-- An ending want is asked for at once, with lifetime 0, and until it is removed.
abbrev pub after_end : ClientView → ℕ → ℕ → ClientView
after_end c id now = record c {
  last = counted c now;
  wants = happened_at c.wants id (Events.Ended (counted c now));
}

-- A want that is given up is gone at once; nothing is asked.
abbrev pub after_forget : ClientView → ℕ → ClientView
after_forget c id = record c { wants = slice_set c.wants id None }

-- what a datagram says to a client; nothing where it isn't from its server, or no response
abbrev pub meaning_of : ClientView → Datagram → Meaning
meaning_of c datagram =
    if bytes_eq datagram.peer.0 c.server.0 then said_in c.wants (response_of datagram.octets)
    else Nothing

-- the epoch that is told now, with the client's second
abbrev pub heard_epoch_at : ℕ → ℕ → HeardEpoch
heard_epoch_at epoch at = heard_epoch epoch (at / 1000)

-- whether this is less than five seconds behind the invalid epoch that last moved what is due
abbrev pub is_soon : Option ℕ → ℕ → Bool
is_soon None at = false
is_soon (Some before) at = nat_lt (at - before) 5000

abbrev pub moves : ClientView → ℕ → ℕ → Bool
moves c epoch at = not (is_valid c.heard (heard_epoch_at epoch at)) && not (is_soon c.moved at)

-- After an invalid epoch all wants are asked for anew, all at one time, as the word says; but another one within five
-- seconds moves nothing (section 14.1.3).
abbrev pub after_epoch : ClientView → ℕ → ℕ → ℕ → ClientView
after_epoch c epoch at word = record c {
  last = at;
  heard = Some (heard_epoch_at epoch at);
  moved = if moves c epoch at then Some at else c.moved;
  wants =
      if moves c epoch at then map (happened (Events.Invalid at word)) c.wants else c.wants;
}

-- what is said beside the epoch
abbrev pub with_notice : List (Option WantView) → ℕ → ℕ → Notice → List (Option WantView)
with_notice wants at word Notices.Epoch = wants
with_notice wants at word (Notices.Grants id grant) =
    happened_at wants id (Events.Taken at word grant)
with_notice wants at word (Notices.Refuses id code seconds) =
    happened_at wants id (Events.Refused at seconds)
with_notice wants at word (Notices.Removes id) = slice_set wants id None

abbrev pub after_notice : ClientView → ℕ → ℕ → Notice → ClientView
after_notice c at word notice = record c { wants = with_notice c.wants at word notice }

abbrev pub after_meaning : ClientView → ℕ → ℕ → Meaning → ClientView
after_meaning c at word Nothing = record c { last = at }
after_meaning c at word (Says epoch notice) = after_notice (after_epoch c epoch at word) at word notice

-- what a datagram makes of a client
abbrev pub after_heard : ClientView → Datagram → ℕ → ℕ → ClientView
after_heard c datagram now word = after_meaning c (counted c now) word (meaning_of c datagram)

-- and what is answered
abbrev pub what_of : Notice → What
what_of Notices.Epoch = Whats.Told
what_of (Notices.Grants id grant) = Whats.Taken id
what_of (Notices.Refuses id code seconds) = Whats.ErrorFor id code seconds
what_of (Notices.Removes id) = Whats.Taken id

abbrev pub epoch_found : Bool → EpochFound
epoch_found valid = if valid then Epochs.Valid else Epochs.Invalid

abbrev pub heard_with : ClientView → ℕ → Meaning → Heard
heard_with c at Nothing = record { epoch = Epochs.Unread; what = Whats.NotMine }
heard_with c at (Says epoch notice) =
    record { epoch = epoch_found (is_valid c.heard (heard_epoch_at epoch at)); what = what_of notice }

abbrev pub heard_of : ClientView → Datagram → ℕ → Heard
heard_of c datagram now = heard_with c (counted c now) (meaning_of c datagram)

-- the least due time of all wants
abbrev pub least : Option ℕ → Option ℕ → Option ℕ
least None b = b
least (Some a) None = Some a
least (Some a) (Some b) = Some (min a b)

abbrev pub due_in : Option WantView → Option ℕ
due_in want = option_map due want

abbrev pub least_due : List (Option WantView) → Option ℕ
least_due [] = None
least_due (want ∷ wants) = least (due_in want) (least_due wants)

abbrev pub is_due_at : ℕ → Option WantView → Bool
is_due_at time None = false
is_due_at time (Some w) = due w == time

-- the want with the least due time, where that isn't after now, and of those the one with the least id
abbrev pub first_at : List (Option WantView) → ℕ → Option ℕ → Option ℕ
first_at wants at None = None
first_at wants at (Some time) = if nat_le time at then position (is_due_at time) wants else None

abbrev pub first_due : List (Option WantView) → ℕ → Option ℕ
first_due wants at = first_at wants at (least_due wants)

-- a lease that is over is dropped
abbrev pub is_over_in : ℕ → Option WantView → Bool
is_over_in at None = false
is_over_in at (Some w) = is_over w at

abbrev pub dropped_of : ℕ → WantView → WantView
dropped_of at w = if is_over w at then after w Events.Dropped else w

abbrev pub dropped_in : ℕ → Option WantView → Option WantView
dropped_in at want = option_map (dropped_of at) want

-- the want that is due first is asked for
abbrev pub after_asked : List (Option WantView) → ℕ → ℕ → Option ℕ → List (Option WantView)
after_asked wants at word None = wants
after_asked wants at word (Some id) = happened_at wants id (Events.Sent at word)

-- what a tick makes of a client
abbrev pub after_tick : ClientView → ℕ → ℕ → ClientView
after_tick c now word = record c {
  last = counted c now;
  wants =
      after_asked (map (dropped_in (counted c now)) c.wants) (counted c now) word
      (first_due c.wants (counted c now));
}

-- and the request that it gives
abbrev pub request_in : Address → Option WantView → Option (List ℕ)
request_in own want = option_map (next_request own) want

abbrev pub request_for : ClientView → Option ℕ → Option (List ℕ)
request_for c None = None
request_for c (Some id) = request_in c.own (want_at c.wants id)

abbrev pub request_due : ClientView → ℕ → Option (List ℕ)
request_due c now = request_for c (first_due c.wants (counted c now))

-- what holds of each client
pub record IsClient (c : ClientView) : Type 0 where
  pub room : length c.wants ≡ 64
  pub last : c.last < 1000 * 2 ^ 40
