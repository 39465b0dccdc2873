-- The text of a record: its kind in one octet, its moment in 8, and its fields (our own). Numbers are
-- big-endian.
use Rattle.std.specs.Prelude.{◌≡◌, ℕ, List, [], ◌∷◌, ◌++◌, length, Result, Ok}
use Rattle.std.specs.List.{flat_map}
use Rattle.std.specs.Int.{to_be_bytes, w16, w64}
use Rattle.pcp_base.specs.declared.leases.Endpoint.{Endpoint}
use Rattle.pcp_base.specs.declared.leases.Filter.{Filter}
use Rattle.pcp_base.specs.declared.leases.MapLease.{MapLease}
use Rattle.pcp_base.specs.declared.leases.PeerLease.{PeerLease}
use Rattle.pcp_base.specs.declared.records.Change.{Change}
use Rattle.pcp_base.specs.declared.records.Change.TheVariants.{Start, Map, Peer, DropMap, DropPeer, Lose, Mark, Rest, Renumber}
use Rattle.pcp_base.specs.declared.records.Record.{Record}
use Rattle.pcp_base.specs.Protocols.{protocol_number}
use Rattle.pcp_base.specs.Tables.{first_endpoint}
use Rattle.pcp_base.specs.Records.{IsWellFormedRecord}
use Rattle.lease_records.specs.declared.reading.NotRecord.{NotRecord}
use Rattle.lease_records.specs.declared.terms.Term.{Term}
use Rattle.lease_records.specs.Values.{map_term, peer_term, IsValue}

-- address 16, protocol 1, port 2
abbrev pub endpoint_text : Endpoint → List ℕ
endpoint_text e = e.address.0 ++ protocol_number e.protocol ∷ to_be_bytes w16 e.port

-- prefix 1, port 2, address 16
abbrev pub filter_text : Filter → List ℕ
filter_text f = f.prefix ∷ to_be_bytes w16 f.port ++ f.remote.0

-- nonce 12, granted 8, expiry 8
abbrev pub term_text : Term → List ℕ
term_text t = t.nonce.0 ++ to_be_bytes w64 t.granted ++ to_be_bytes w64 t.expiry

-- the first endpoint, count 2, first external 2, nonce, granted, expiry, the number of filters 1, each filter
-- how many, and each
abbrev pub filters_text : List Filter → List ℕ
filters_text filters = length filters ∷ flat_map filter_text filters

abbrev pub map_text : MapLease → List ℕ
map_text l = endpoint_text (first_endpoint l) ++ to_be_bytes w16 l.count ++ to_be_bytes w16 l.external
    ++ term_text (map_term l) ++ filters_text l.filters

-- the endpoint, external 2, remote address 16, remote port 2, nonce, granted, expiry
abbrev pub peer_text : PeerLease → List ℕ
peer_text l =
    endpoint_text l.endpoint ++ to_be_bytes w16 l.external ++ l.remote.0
    ++ to_be_bytes w16 l.remote_port
    ++ term_text (peer_term l)

-- protocol 1, external 2, address 16, internal 2, end 8
abbrev pub rest_text : Endpoint → ℕ → ℕ → List ℕ
rest_text e external end =
    protocol_number e.protocol ∷ to_be_bytes w16 external ++ e.address.0 ++ to_be_bytes w16 e.port
    ++ to_be_bytes w64 end

abbrev pub kind_of : Change → ℕ
kind_of Start = 1
kind_of (Map l) = 2
kind_of (Peer l) = 3
kind_of (DropMap e) = 4
kind_of (DropPeer e remote port) = 5
kind_of Lose = 6
kind_of Mark = 7
kind_of (Rest e external end) = 8
kind_of (Renumber a) = 9

abbrev pub fields_text : Change → List ℕ
fields_text Start = []
fields_text (Map l) = map_text l
fields_text (Peer l) = peer_text l
fields_text (DropMap e) = endpoint_text e
fields_text (DropPeer e remote port) = endpoint_text e ++ remote.0 ++ to_be_bytes w16 port
fields_text Lose = []
fields_text Mark = []
fields_text (Rest e external end) = rest_text e external end
fields_text (Renumber a) = a.0

abbrev pub record_text : Record → List ℕ
record_text r = kind_of r.change ∷ to_be_bytes w64 r.moment ++ fields_text r.change

-- the octets are the text of a well formed record
pub record IsRecordText (octets : List ℕ) (r : Record) : Type 0 where
  pub value : IsValue r
  pub well_formed : IsWellFormedRecord r
  pub text : octets ≡ record_text r

-- one record has one text, and no text of a record begins that of another
abbrev pub OneText : Type 0
OneText = (r s : Record) (x y : List ℕ) → IsValue r → IsValue s →
    record_text r ++ x ≡ record_text s ++ y → (r ≡ s) × (x ≡ y)

-- octets that begin with the text of a record are read as this record
abbrev pub IsReadAgain : List ℕ → Result (Record × ℕ) NotRecord → Type 0
IsReadAgain octets result = (r : Record) (text rest : List ℕ) → IsRecordText text r →
    octets ≡ text ++ rest → result ≡ Ok (r, length text)
