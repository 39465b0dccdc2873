-- What a datagram is that comes by a door (our own).
use Rattle.std.specs.Prelude.{◌≡◌, ℕ, ◌⊎◌, true, false, nat_eq, List, ◌++◌, length, Option, Some, None}
use Rattle.std.specs.List.{starts_with}
use Rattle.std.specs.Net.Addr.{ipv4_octets, ipv6_octets}
use Rattle.std.specs.declared.net.ip_addr.IpAddr.{IpAddr}
use Rattle.std.specs.declared.net.ip_addr.IpAddr.TheVariants as Ip
use Rattle.pcp_base.specs.declared.addresses.Address.{Address}
use Rattle.pcp_base.specs.AddressTexts.{v4_front}
use Rattle.pcp_io.specs.declared.inboxes.Incoming.{Incoming}
use Rattle.pcp_io.specs.declared.inboxes.Incoming.TheVariants as Incomings
use Rattle.pcp_io.specs.CallLogs.{one_more}
use Rattle.pcp_io.specs.Controls.{IsOrder, IsSaid, order_door}

-- Who sent a packet: an IPv4 sender in its mapped form (RFC 6887, section 5). An IPv6 packet with such a
-- source is nobody's.
abbrev pub IsSender : IpAddr → Option Address → Type 0
IsSender (Ip.V4 a) None = ⊥
IsSender (Ip.V4 a) (Some sender) = sender.0 ≡ v4_front ++ ipv4_octets a
IsSender (Ip.V6 a) None = starts_with nat_eq (ipv6_octets a) v4_front ≡ true
IsSender (Ip.V6 a) (Some sender) =
    (starts_with nat_eq (ipv6_octets a) v4_front ≡ false) × (sender.0 ≡ ipv6_octets a)

-- it is an order by this door, and says this
pub record IsOrdered (door : ℕ) (source : IpAddr) (octets : List ℕ) (incoming : Incoming) : Type 0 where
  pub peer : Address
  pub sender : IsSender source (Some peer)
  pub text : List ℕ
  pub order : IsOrder door peer octets text
  pub said : IsSaid text incoming

-- it is no order: a datagram of its sender, by this door, whole
pub record IsSent (door : ℕ) (source : IpAddr) (port : ℕ) (octets : List ℕ) (incoming : Incoming)
    : Type 0 where
  pub peer : Address
  pub sender : IsSender source (Some peer)
  pub none : (text : List ℕ) → ¬ (IsOrder door peer octets text)
  pub is : incoming ≡ Incomings.Packet peer port door (length octets)

-- what came: nothing where it is nobody's, an order, or a datagram
abbrev pub Arrives : ℕ → IpAddr → ℕ → List ℕ → Incoming → Type 0
Arrives door source port octets incoming =
    ((incoming ≡ Incomings.Quiet) × IsSender source None)
    ⊎ (IsOrdered door source octets incoming ⊎ IsSent door source port octets incoming)

-- A datagram has the number of the door by which it came, and an order came by the door of orders.
abbrev pub ComesBy : ℕ → Incoming → Type 0
ComesBy door (Incomings.Packet peer port at n) = at ≡ door
ComesBy door (Incomings.Lose order address) = door ≡ order_door
ComesBy door (Incomings.Status order) = ⊥
ComesBy door Incomings.Quiet = Unit {0}
ComesBy door Incomings.Stop = door ≡ order_door

-- an inbox of one door
pub record DoorInbox : Type 0 where
  pub door : ℕ
  -- how many faults it has counted
  pub faults : ℕ

abbrev pub with_one_fault : DoorInbox → DoorInbox
with_one_fault inbox = record inbox { faults = one_more inbox.faults }
