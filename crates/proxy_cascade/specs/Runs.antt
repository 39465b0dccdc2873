-- What comes to a cascade, one after the other, and the epoch that it then tells.
use Rattle.std.specs.Prelude.{ℕ, ◌-◌, ◌/◌, ◌^◌, max, min, List, [], ◌∷◌, ◌++◌, Option, Some, None, if◌then◌else◌}
use Rattle.pcp_base.specs.declared.addresses.Address.{Address}
use Rattle.pcp_options.specs.declared.responses.Response.{Response}
use Rattle.proxy_core.specs.declared.epochs.Heard.{Heard}
use Rattle.proxy_core.specs.Relays.{response_from}
use Rattle.proxy_core.specs.Runs.{Event}
use Rattle.proxy_core.specs.Runs.Event.{Client, Server, Tick}
use Rattle.proxy_cascade.specs.Cascades.{Cascade, on_tick}
use Rattle.proxy_cascade.specs.FromClients.{on_client}
use Rattle.proxy_cascade.specs.FromServers.{keeps_epoch, on_server}

-- the cascade after a datagram of a client, a datagram from upstream, or a tick
abbrev pub next : Cascade → Event → Cascade
next c (Client d now) = (on_client c d now).cascade
next c (Server d now) = (on_server c d now).cascade
next c (Tick now) = (on_tick c now).cascade

-- the cascade after events, the first one first
abbrev pub run : Cascade → List Event → Cascade
run c [] = c
run c (e ∷ es) = run (next c e) es

-- ---- the epoch, by the events alone

-- the moment of an event
abbrev pub moment_of : Event → ℕ
moment_of (Client d now) = now
moment_of (Server d now) = now
moment_of (Tick now) = now

-- the moment reached after events; one that is smaller than the last counts as the last
abbrev pub moment_after : ℕ → List Event → ℕ
moment_after last [] = last
moment_after last (e ∷ es) = moment_after (max last (moment_of e)) es

abbrev pub epoch_in : Option Response → ℕ → List Heard
epoch_in None now = []
epoch_in (Some r) now = (record { epoch = r.epoch; at_ms = now }) ∷ []

-- the epoch that an event tells, at this moment
abbrev pub epoch_by : Address → Event → ℕ → List Heard
epoch_by server (Client d now) at = []
epoch_by server (Server d now) at = epoch_in (response_from server d) at
epoch_by server (Tick now) at = []

-- all epochs that the server told, each with its moment
abbrev pub epochs_heard : Address → ℕ → List Event → List Heard
epochs_heard server last [] = []
epochs_heard server last (e ∷ es) =
    epoch_by server e (max last (moment_of e))
    ++ epochs_heard server (max last (moment_of e)) es

-- the last of a moment and those of the epochs that weren't valid after the one before
abbrev pub last_loss : ℕ → Option Heard → List Heard → ℕ
last_loss base before [] = base
last_loss base before (h ∷ hs) =
    last_loss (if keeps_epoch before h.epoch h.at_ms then base else h.at_ms) (Some h) hs

-- the whole seconds since the last of the start and the replies found invalid
abbrev pub epoch_after : Address → ℕ → List Event → ℕ
epoch_after server start es =
    min ((moment_after start es - last_loss start None (epochs_heard server start es)) / 1000)
    (2 ^ 32 - 1)
