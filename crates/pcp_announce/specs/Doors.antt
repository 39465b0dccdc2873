-- The doors of a server, and to whom it tells what by them: RFC 6887, section 14.1, says that announcements go to
-- all hosts of a link, by IPv4 and by IPv6; the rest is our own.
use Rattle.std.specs.Prelude.{ℕ, ◌+◌, ◌||◌, Bool, nat_eq, bytes_eq, List, [], ◌∷◌, ◌++◌, replicate, map, filter, Option, Some, None, if◌then◌else◌}
use mathlib.Core.Bool.{beq}
use Rattle.std.specs.List.{filter_map, starts_with}
use Rattle.pcp_base.specs.AddressTexts.{v4_front}
use Rattle.pcp_base.specs.declared.addresses.Address.{Address}
use Rattle.pcp_base.specs.declared.configs.Config.{Config}
use Rattle.pcp_base.specs.declared.configs.ListenAddress.{ListenAddress}
use Rattle.pcp_base.specs.declared.configs.Orders.{Orders}
use Rattle.pcp_base.specs.declared.configs.Orders.TheVariants.{Both, Folder}
use Rattle.pcp_base.specs.Configs.{prefix}
use Rattle.pcp_base.specs.Pairing.{holds, v4_octets}
use Rattle.pcp_announce.specs.declared.doors.Door.{Door}
use Rattle.pcp_announce.specs.declared.doors.Group.{Group}

-- whether it is the address of an IPv4 host (RFC 6887, section 5)
abbrev pub is_v4 : Address → Bool
is_v4 a = starts_with nat_eq a.0 v4_front

-- 127.0.0.0/8 (RFC 1122, section 3.2.1.3), and ::1 (RFC 4291, section 2.5.3)
abbrev pub is_loopback : Address → Bool
is_loopback a =
    holds (prefix (v4_octets 127 0 0 0) 104) a
    || holds (prefix (replicate 15 0 ++ 1 ∷ []) 128) a

-- whether it is 127.0.0.1
abbrev pub is_own_host : Address → Bool
is_own_host a = bytes_eq a.0 (v4_octets 127 0 0 1)

-- the number of the door at this place of `listen`: where orders come from 127.0.0.1, an entry of that
-- address is the door of orders, 255
abbrev pub door_number : Orders → ℕ → Address → ℕ
door_number Both place a = if is_own_host a then 255 else place
door_number Folder place a = place

-- the doors of these entries, the first of which stands at this place
abbrev pub doors_from : Orders → ℕ → List ListenAddress → List Door
doors_from orders place [] = []
doors_from orders place (x ∷ xs) =
    record { number = door_number orders place x.address; address = x.address }
    ∷ doors_from orders (place + 1) xs

-- where nothing is said: all addresses of the host, by IPv4 and by IPv6
abbrev pub doors_anywhere : List Door
doors_anywhere =
    record { number = 0; address = record { 0 = v4_octets 0 0 0 0 } }
    ∷ record { number = 1; address = record { 0 = replicate 16 0 } } ∷ []

abbrev pub doors_of : Orders → List ListenAddress → List Door
doors_of orders [] = doors_anywhere
doors_of orders (x ∷ xs) = doors_from orders 0 (x ∷ xs)

-- the doors of a server, in order
abbrev pub doors : Config → List Door
doors config = doors_of config.orders config.listen

-- 224.0.0.1, all hosts of a link (RFC 1112, section 4)
abbrev pub all_hosts_v4 : Address
all_hosts_v4 = record { 0 = v4_octets 224 0 0 1 }

-- ff02::1, all hosts of a link (RFC 4291, section 2.7.1)
abbrev pub all_hosts_v6 : Address
all_hosts_v6 = record { 0 = 255 ∷ 2 ∷ replicate 13 0 ++ 1 ∷ [] }

-- the hosts to which a door announces: those of its family on its link, and none by the loopback
abbrev pub group_of : Door → Option Group
group_of door =
    if is_loopback door.address then None
    else Some (record {
      door = door.number;
      hosts = if is_v4 door.address then all_hosts_v4 else all_hosts_v6;
    })

-- by which doors what is announced goes to which hosts, in order
abbrev pub groups : Config → List Group
groups config = filter_map group_of (doors config)

-- whether a host of this address is reached by the door: both are of one family
abbrev pub reaches : Door → Address → Bool
reaches door a = beq (is_v4 door.address) (is_v4 a)

-- the numbers of the doors by which a host of this address is reached, in order
abbrev pub doors_to : Config → Address → List ℕ
doors_to config a = map (λ d. d.number) (filter (λ d. reaches d a) (doors config))
