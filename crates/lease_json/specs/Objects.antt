-- Leases as JSON (our own). The members of an object stand in the order of their names.
use Rattle.std.specs.Prelude.{ℕ, List, [], ◌∷◌, codes, map}
use Rattle.hex.specs.Hex.{encode_lower}
use Rattle.serde_json.specs.Data.{Data, number, unsigned, string, array, object, Members, no_members, member}
use Rattle.serde_json.specs.View.{items_of}
use Rattle.pcp_base.specs.AddressTexts.{address_text}
use Rattle.pcp_base.specs.Protocols.{protocol_number}
use Rattle.pcp_base.specs.declared.addresses.Address.{Address}
use Rattle.pcp_base.specs.declared.addresses.Nonce.{Nonce}
use Rattle.pcp_base.specs.declared.leases.Filter.{Filter}
use Rattle.pcp_base.specs.declared.leases.MapLease.{MapLease}
use Rattle.pcp_base.specs.declared.leases.PeerLease.{PeerLease}

-- a name and what it stands for
pub record Named : Type 0 where
  pub name : List ℕ
  pub value : Data

abbrev pub named : List ℕ → Data → Named
named name value = record { name = name; value = value }

abbrev pub members : List Named → Members
members [] = no_members
members (x ∷ xs) = member x.name x.value (members xs)

abbrev pub natural : ℕ → Data
natural n = number (unsigned n)

abbrev pub address_value : Address → Data
address_value a = string (address_text a)

-- 24 lower-case hexadecimal digits
abbrev pub nonce_value : Nonce → Data
nonce_value nonce = string (encode_lower nonce.0)

abbrev pub filter_value : Filter → Data
filter_value f = object (members (
    named (codes "port") (natural f.port)
    ∷ named (codes "prefix") (natural f.prefix)
    ∷ named (codes "remote") (address_value f.remote)
    ∷ []))

abbrev pub filters_value : List Filter → Data
filters_value fs = array (items_of (map filter_value fs))

abbrev pub map_value : MapLease → Data
map_value l = object (members (
    named (codes "address") (address_value l.address)
    ∷ named (codes "count") (natural l.count)
    ∷ named (codes "expiry") (natural l.expiry)
    ∷ named (codes "external") (natural l.external)
    ∷ named (codes "filters") (filters_value l.filters)
    ∷ named (codes "granted") (natural l.granted)
    ∷ named (codes "internal") (natural l.internal)
    ∷ named (codes "nonce") (nonce_value l.nonce)
    ∷ named (codes "protocol") (natural (protocol_number l.protocol))
    ∷ []))

abbrev pub maps_value : List MapLease → Data
maps_value ls = array (items_of (map map_value ls))

abbrev pub peer_value : PeerLease → Data
peer_value l = object (members (
    named (codes "address") (address_value l.endpoint.address)
    ∷ named (codes "expiry") (natural l.expiry)
    ∷ named (codes "external") (natural l.external)
    ∷ named (codes "granted") (natural l.granted)
    ∷ named (codes "internal") (natural l.endpoint.port)
    ∷ named (codes "nonce") (nonce_value l.nonce)
    ∷ named (codes "protocol") (natural (protocol_number l.endpoint.protocol))
    ∷ named (codes "remote") (address_value l.remote)
    ∷ named (codes "remote_port") (natural l.remote_port)
    ∷ []))

abbrev pub peers_value : List PeerLease → Data
peers_value ls = array (items_of (map peer_value ls))
