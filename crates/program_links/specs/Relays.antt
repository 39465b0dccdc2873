-- By which doors of a relay a datagram leaves, and to whom (our own).
use Rattle.std.specs.Prelude.{ℕ, nat_eq, Option, Some, None, if◌then◌else◌}
use Rattle.std.specs.declared.net.socket_addr.SocketAddr.{SocketAddr}
use Rattle.std.specs.declared.net.socket_addr.SocketAddr.TheVariants as At
use Rattle.pcp_base.specs.declared.addresses.Address.{Address}
use Rattle.pcp_base.specs.Tables.{same_address}
use Rattle.pcp_announce.specs.declared.doors.Group.{Group}
use Rattle.pcp_announce.specs.Doors.{all_hosts_v4, all_hosts_v6}

-- all hosts at a door that is bound there: those of its family
abbrev pub group_at : ℕ → SocketAddr → Group
group_at door (At.V4 place) = record { door = door; hosts = all_hosts_v4 }
group_at door (At.V6 place) = record { door = door; hosts = all_hosts_v6 }

-- To whom a datagram leaves by the door of this group: one for 224.0.0.1 leaves by each door, to all hosts
-- there, and any other by its own door alone, to its peer.
abbrev pub aim_at : Group → ℕ → Address → Option Address
aim_at group door peer =
    if same_address peer all_hosts_v4 then Some group.hosts
    else (if nat_eq door group.door then Some peer else None)
