-- Which router the system's table of IPv4 routes names (our own).
use Rattle.std.specs.Prelude.{ℕ, ◌^◌, ◌/◌, ◌%◌, ◌==◌, nat_lt, ◌&&◌, Bool, List, [], ◌∷◌, length, slice_get, Option, Some, None, option_map, if◌then◌else◌}
use Rattle.std.specs.Char.{digit_value}
use Rattle.std.specs.List.{list_all, slice_split}
use Rattle.std.specs.Str.Parse.{digits_value, without_leading_plus}
use Rattle.pcp_base.specs.declared.addresses.Address.{Address}
use Rattle.pcp_base.specs.Pairing.{v4_octets}
use Rattle.program_links.specs.declared.routes.Route.{Route}

-- one digit or more of this base, which write a number below 2^32
abbrev pub is_number : ℕ → List ℕ → Bool
is_number base text = nat_lt 0 (length text) && list_all (λ c. nat_lt (digit_value c) base) text
    && nat_lt (digits_value base text) (2 ^ 32)

abbrev pub number_in : ℕ → List ℕ → Option ℕ
number_in base text =
    if is_number base (without_leading_plus text) then Some (digits_value base (without_leading_plus text)) else None

-- the number in the column of this place
abbrev pub number_at : ℕ → Option (List ℕ) → Option ℕ
number_at base (Some text) = number_in base text
number_at base None = None

abbrev pub route_with : Option ℕ → Option ℕ → Option ℕ → Option ℕ → Option ℕ → Option Route
route_with (Some network) (Some router) (Some flags) (Some metric) (Some mask) =
    Some (record { network = network; router = router; flags = flags; metric = metric; mask = mask })
route_with network router flags metric mask = None

-- The columns of a line: the link, the network in hexadecimal digits, its router and the flags likewise, two
-- counts, the metric in decimal ones, and the network's mask in hexadecimal ones.
abbrev pub route_of : List (List ℕ) → Option Route
route_of columns = route_with (number_at 16 (slice_get columns 1)) (number_at 16 (slice_get columns 2))
    (number_at 16 (slice_get columns 3)) (number_at 10 (slice_get columns 6)) (number_at 16 (slice_get columns 7))

-- It leads to every address, it is up (flag 1), and by a router (flag 2).
abbrev pub is_default : Route → Bool
is_default route = route.network == 0 && route.mask == 0 && route.flags % 4 == 3

abbrev pub default_of : Option Route → Option Route
default_of (Some route) = if is_default route then Some route else None
default_of None = None

-- the default route that a line tells, whose columns are cut by tabs
abbrev pub default_in : List ℕ → Option Route
default_in line = default_of (route_of (slice_split (λ octet. octet == 9) line))

-- the one of the lesser metric, the former of equal ones
abbrev pub lesser : Option Route → Option Route → Option Route
lesser (Some a) (Some b) = if nat_lt b.metric a.metric then Some b else Some a
lesser (Some a) None = Some a
lesser None b = b

-- the first one of the least metric
abbrev pub least_default : List (List ℕ) → Option Route
least_default [] = None
least_default (line ∷ lines) = lesser (default_in line) (least_default lines)

-- The octets of a router stand in its number the other way round.
abbrev pub router_of : Route → Address
router_of route = record {
  0 = v4_octets (route.router % 256) (route.router / 256 % 256) (route.router / 65536 % 256)
      (route.router / 16777216 % 256);
}

-- the router of the default route of the least metric, of a text whose lines are cut by line feeds
abbrev pub default_router : List ℕ → Option Address
default_router text = option_map router_of (least_default (slice_split (λ octet. octet == 10) text))
