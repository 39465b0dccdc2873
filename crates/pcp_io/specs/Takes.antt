-- What an inbox gives (our own).
use Rattle.std.specs.Prelude.{◌≡◌, ℕ, ◌≤◌, List, [], ◌∷◌, length, take, Option, Some, None}
use Rattle.pcp_base.specs.declared.datagrams.Datagram.{Datagram}
use Rattle.pcp_io.specs.declared.inboxes.Incoming.{Incoming}
use Rattle.pcp_io.specs.declared.inboxes.Incoming.TheVariants as Incomings
use Rattle.pcp_io.specs.declared.inboxes.InboxItem.{InboxItem}
use Rattle.pcp_io.specs.declared.inboxes.InboxItem.TheVariants as Items
use Rattle.pcp_io.specs.declared.inboxes.TheConstants.{LONGEST_DATAGRAM}

-- the item that a take gave, with the room's octets; none at a stop
abbrev pub item_of : Incoming → List ℕ → Option InboxItem
item_of (Incomings.Packet peer port door n) room =
    Some (Items.Packet (record { peer = peer; port = port; door = door; octets = take n room }))
item_of (Incomings.Lose order address) room = Some (Items.Lose order address)
item_of (Incomings.Status order) room = Some (Items.Status order)
item_of Incomings.Quiet room = Some Items.Quiet
item_of Incomings.Stop room = None

-- how many octets of the room it fills
abbrev pub filled : Incoming → ℕ
filled (Incomings.Packet peer port door n) = n
filled (Incomings.Lose order address) = 0
filled (Incomings.Status order) = 0
filled Incomings.Quiet = 0
filled Incomings.Stop = 0

-- It is the next of what was left, where that is told. A stop comes where nothing was left.
abbrev pub IsNextItem : Option (List InboxItem) → Option (List InboxItem) → Option InboxItem →
    Type 0
IsNextItem None now given = now ≡ None
IsNextItem (Some []) now given = (given ≡ None) × (now ≡ Some [])
IsNextItem (Some (item ∷ rest)) now given = (given ≡ Some item) × (now ≡ Some rest)

-- a take gave this, with its octets in the room
pub record Takes (before now : Option (List InboxItem)) (room : List ℕ) (incoming : Incoming)
    : Type 0 where
  pub bound : filled incoming ≤ length room
  pub most : filled incoming ≤ LONGEST_DATAGRAM
  pub next : IsNextItem before now (item_of incoming room)

-- a datagram as an inbox gives it
abbrev pub cut_datagram : Datagram → Datagram
cut_datagram d =
    record { peer = d.peer; port = d.port; door = d.door; octets = take LONGEST_DATAGRAM d.octets }

abbrev pub cut_item : InboxItem → InboxItem
cut_item (Items.Packet d) = Items.Packet (cut_datagram d)
cut_item (Items.Lose order address) = Items.Lose order address
cut_item (Items.Status order) = Items.Status order
cut_item Items.Quiet = Items.Quiet
