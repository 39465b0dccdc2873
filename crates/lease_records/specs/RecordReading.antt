-- Reading records from left to right, field by field: a field is a value and the octets behind it.
use Rattle.std.specs.Prelude.{◌≡◌, ℕ, zero, suc, ◌^◌, List, [], ◌∷◌, length, take, drop, Option, Some, None, Result, Ok, Err, nat_lt, ◌==◌, if◌then◌else◌}
use Rattle.std.specs.Int.{Width, w16, w64, byte_len, from_be_bytes}
use Rattle.pcp_base.specs.declared.addresses.Address.{Address}
use Rattle.pcp_base.specs.declared.addresses.Nonce.{Nonce}
use Rattle.pcp_base.specs.declared.leases.Endpoint.{Endpoint}
use Rattle.pcp_base.specs.declared.leases.Filter.{Filter}
use Rattle.pcp_base.specs.declared.leases.MapLease.{MapLease}
use Rattle.pcp_base.specs.declared.leases.PeerLease.{PeerLease}
use Rattle.pcp_base.specs.declared.records.Change.{Change}
use Rattle.pcp_base.specs.declared.records.Change.TheVariants.{Start, Map, Peer, DropMap, DropPeer, Lose, Mark, Rest, Renumber}
use Rattle.pcp_base.specs.declared.records.Record.{Record}
use Rattle.pcp_base.specs.Protocols.{protocol_of}
use Rattle.pcp_base.specs.declared.leases.TheConstants.{MOST_FILTERS}
use Rattle.lease_records.specs.declared.terms.Term.{Term}

infixl 10 ◌>>=◌
abbrev pub ◌>>=◌ : {A B : Type 0} → Option A → (A → Option B) → Option B
None >>= f = None
(Some x) >>= f = f x

-- what a function returned, seen by view, is what reading gives
abbrev pub Gives : {X Y E : Type 0} → (X → Y) → Result X E → Option Y → Type 0
Gives view (Ok x) read = read ≡ Some (view x)
Gives view (Err e) read = read ≡ None

abbrev pub take_octets : ℕ → List ℕ → Option (List ℕ × List ℕ)
take_octets n octets = if nat_lt (length octets) n then None else Some (take n octets, drop n octets)

abbrev pub octet_at : List ℕ → Option (ℕ × List ℕ)
octet_at [] = None
octet_at (x ∷ rest) = Some (x, rest)

unfoldable pub number_at : Width → List ℕ → Option (ℕ × List ℕ)
number_at w octets = do
  n ← take_octets (byte_len w) octets
  Some (from_be_bytes w n.0, n.1)

unfoldable pub moment_at : List ℕ → Option (ℕ × List ℕ)
moment_at octets = do
  m ← number_at w64 octets
  if nat_lt m.0 (2 ^ 40) then Some (m.0, m.1) else None

unfoldable pub address_at : List ℕ → Option (Address × List ℕ)
address_at octets = do
  a ← take_octets 16 octets
  Some (record { 0 = a.0 }, a.1)

unfoldable pub nonce_at : List ℕ → Option (Nonce × List ℕ)
nonce_at octets = do
  n ← take_octets 12 octets
  Some (record { 0 = n.0 }, n.1)

unfoldable pub endpoint_at : List ℕ → Option (Endpoint × List ℕ)
endpoint_at octets = do
  a ← address_at octets
  n ← octet_at a.1
  protocol ← protocol_of n.0
  port ← number_at w16 n.1
  Some (record { address = a.0; protocol = protocol; port = port.0 }, port.1)

unfoldable pub filter_at : List ℕ → Option (Filter × List ℕ)
filter_at octets = do
  prefix ← octet_at octets
  port ← number_at w16 prefix.1
  remote ← address_at port.1
  Some (record { prefix = prefix.0; port = port.0; remote = remote.0 }, remote.1)

unfoldable pub filters_at : ℕ → List ℕ → Option (List Filter × List ℕ)
filters_at zero octets = Some ([], octets)
filters_at (suc n) octets = do
  first ← filter_at octets
  others ← filters_at n first.1
  Some (first.0 ∷ others.0, others.1)

-- a number of at most MOST_FILTERS, and that many filters
unfoldable pub all_filters_at : List ℕ → Option (List Filter × List ℕ)
all_filters_at octets = do
  n ← octet_at octets
  if nat_lt MOST_FILTERS n.0 then None else filters_at n.0 n.1

unfoldable pub term_at : List ℕ → Option (Term × List ℕ)
term_at octets = do
  nonce ← nonce_at octets
  granted ← moment_at nonce.1
  expiry ← number_at w64 granted.1
  Some (record { nonce = nonce.0; granted = granted.0; expiry = expiry.0 }, expiry.1)

unfoldable pub map_at : List ℕ → Option (MapLease × List ℕ)
map_at octets = do
  e ← endpoint_at octets
  count ← number_at w16 e.1
  external ← number_at w16 count.1
  term ← term_at external.1
  filters ← all_filters_at term.1
  Some (
    record {
      address = e.0.address;
      protocol = e.0.protocol;
      internal = e.0.port;
      count = count.0;
      external = external.0;
      nonce = term.0.nonce;
      granted = term.0.granted;
      expiry = term.0.expiry;
      filters = filters.0;
    },
    filters.1,
  )

unfoldable pub peer_at : List ℕ → Option (PeerLease × List ℕ)
peer_at octets = do
  e ← endpoint_at octets
  external ← number_at w16 e.1
  remote ← address_at external.1
  port ← number_at w16 remote.1
  term ← term_at port.1
  Some (
    record {
      endpoint = e.0;
      external = external.0;
      remote = remote.0;
      remote_port = port.0;
      nonce = term.0.nonce;
      granted = term.0.granted;
      expiry = term.0.expiry;
    },
    term.1,
  )

unfoldable pub drop_map_at : List ℕ → Option (Change × List ℕ)
drop_map_at octets = do
  e ← endpoint_at octets
  Some (DropMap e.0, e.1)

unfoldable pub drop_peer_at : List ℕ → Option (Change × List ℕ)
drop_peer_at octets = do
  e ← endpoint_at octets
  remote ← address_at e.1
  port ← number_at w16 remote.1
  Some (DropPeer e.0 remote.0 port.0, port.1)

unfoldable pub rest_at : List ℕ → Option (Change × List ℕ)
rest_at octets = do
  n ← octet_at octets
  protocol ← protocol_of n.0
  external ← number_at w16 n.1
  a ← address_at external.1
  port ← number_at w16 a.1
  end ← number_at w64 port.1
  Some (Rest (record { address = a.0; protocol = protocol; port = port.0 }) external.0 end.0, end.1)

unfoldable pub renumber_at : List ℕ → Option (Change × List ℕ)
renumber_at octets = do
  a ← address_at octets
  Some (Renumber a.0, a.1)

unfoldable pub change_at : ℕ → List ℕ → Option (Change × List ℕ)
change_at kind octets =
    if kind == 1 then Some (Start, octets)
    else if kind == 2 then (map_at octets >>= λ l. Some (Map l.0, l.1))
    else if kind == 3 then (peer_at octets >>= λ l. Some (Peer l.0, l.1))
    else if kind == 4 then drop_map_at octets
    else if kind == 5 then drop_peer_at octets
    else if kind == 6 then Some (Lose, octets)
    else if kind == 7 then Some (Mark, octets)
    else if kind == 8 then rest_at octets
    else if kind == 9 then renumber_at octets
    else None

-- a record whose fields are values, well formed or not
unfoldable pub record_at : List ℕ → Option (Record × List ℕ)
record_at octets = do
  kind ← octet_at octets
  moment ← moment_at kind.1
  change ← change_at kind.0 moment.1
  Some (record { moment = moment.0; change = change.0 }, change.1)
