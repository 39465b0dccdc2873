-- What counts of what came to a link of a relay (our own).
use Rattle.std.specs.Prelude.{ℕ, nat_eq, nat_lt, if◌then◌else◌}
use Rattle.pcp_base.specs.declared.addresses.Address.{Address}
use Rattle.pcp_base.specs.Tables.{same_address}
use Rattle.pcp_io.specs.Controls.{order_door}
use Rattle.pcp_io.specs.declared.inboxes.Incoming.{Incoming}
use Rattle.pcp_io.specs.declared.inboxes.Incoming.TheVariants.{Packet, Lose, Status, Quiet, Stop}

-- from upstream a datagram of the server alone; no order comes from there
abbrev pub from_upstream : Address → Incoming → Incoming
from_upstream server (Packet peer port door n) =
    if same_address peer server then Packet peer port door n else Quiet
from_upstream server (Lose order address) = Quiet
from_upstream server (Status order) = Quiet
from_upstream server Quiet = Quiet
from_upstream server Stop = Quiet

-- from clients a datagram of any other; no order comes from there
abbrev pub from_clients : Address → Incoming → Incoming
from_clients server (Packet peer port door n) =
    if same_address peer server then Quiet else Packet peer port door n
from_clients server (Lose order address) = Quiet
from_clients server (Status order) = Quiet
from_clients server Quiet = Quiet
from_clients server Stop = Quiet

-- by the door of orders these, and a datagram of the server
abbrev pub from_orders : Address → Incoming → Incoming
from_orders server (Packet peer port door n) = from_upstream server (Packet peer port door n)
from_orders server (Lose order address) = Lose order address
from_orders server (Status order) = Status order
from_orders server Quiet = Quiet
from_orders server Stop = Stop

-- The doors below 16 are the inner ones. A stop counts by the door of orders alone.
abbrev pub heard_at : ℕ → Address → Incoming → Incoming
heard_at door server incoming =
    if nat_eq door order_door then from_orders server incoming
    else (if nat_lt door 16 then from_clients server incoming else from_upstream server incoming)
