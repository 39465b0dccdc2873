-- How long the texts of records are.
use Rattle.std.proofs.Common.{◌≡◌, ℕ, ◌*◌, ◌<◌, ◌≤◌, List, [], ◌∷◌, ◌++◌, length, refl, arith, length-append}
use Rattle.std.specs.List.{flat_map, AllByRecursion}
use Rattle.std.specs.Int.{to_be_bytes, w16, w64}
use Rattle.pcp_base.specs.declared.leases.TheConstants.{MOST_FILTERS}
use Rattle.pcp_base.specs.declared.leases.Endpoint.{Endpoint}
use Rattle.pcp_base.specs.declared.leases.Filter.{Filter}
use Rattle.pcp_base.specs.declared.records.Change.{Change}
use Rattle.pcp_base.specs.declared.records.Change.TheVariants.{Start, Map, Peer, DropMap, DropPeer, Lose, Mark, Rest, Renumber}
use Rattle.pcp_base.specs.declared.records.Record.{Record}
use Rattle.pcp_base.specs.Protocols.{protocol_number}
use Rattle.pcp_base.specs.Tables.{first_endpoint}
use Rattle.lease_records.specs.RecordTexts.{endpoint_text, filter_text, filters_text, kind_of, fields_text, record_text}
use Rattle.lease_records.specs.Values.{IsEndpoint, IsFilter, IsChangeValue, IsValue}
use Rattle.journal_sides.specs.Frames.{IsBatch, records_text}

endpoint_length : (e : Endpoint) → IsEndpoint e → length (endpoint_text e) ≡ 19
endpoint_length e v =
    let two : length (to_be_bytes w16 e.port) ≡ 2 = refl in
    omega (arith, length-append e.address.0 (protocol_number e.protocol ∷ to_be_bytes w16 e.port), two, v.address)

term_length : (nonce : List ℕ) (granted expiry : ℕ) → length nonce ≡ 12 → length (nonce ++ to_be_bytes w64 granted ++ to_be_bytes w64 expiry) ≡ 28
term_length nonce granted expiry twelve =
    let x = to_be_bytes w64 granted in
    let y = to_be_bytes w64 expiry in
    let eight : length x ≡ 8 = refl in
    let more : length y ≡ 8 = refl in
    omega (arith, length-append (nonce ++ x) y, length-append nonce x, eight, more, twelve)

filters_length : (fs : List Filter) → AllByRecursion IsFilter fs → length (flat_map filter_text fs) ≡ 19 * length fs
filters_length [] all = refl
filters_length (f ∷ fs) all =
    let p = to_be_bytes w16 f.port in
    let two : length p ≡ 2 = refl in
    omega (arith, length-append (filter_text f) (flat_map filter_text fs), length-append p f.remote.0, length-append (f.prefix ∷ p) f.remote.0, two, all.0.remote, filters_length fs all.1)

fields_short : (c : Change) → IsChangeValue c → length (fields_text c) ≤ 204
fields_short Start v = omega arith
fields_short Lose v = omega arith
fields_short Mark v = omega arith
fields_short (Map l) v =
    let e = endpoint_text (first_endpoint l) in
    let c = to_be_bytes w16 l.count in
    let x = to_be_bytes w16 l.external in
    let t = l.nonce.0 ++ to_be_bytes w64 l.granted ++ to_be_bytes w64 l.expiry in
    let two : length c ≡ 2 = refl in
    let more : length x ≡ 2 = refl in
    let eight : MOST_FILTERS ≡ 8 = refl in
    omega (arith, length-append (e ++ c ++ x ++ t) (filters_text l.filters), length-append (e ++ c ++ x) t, length-append (e ++ c) x, length-append e c, two, more, eight, endpoint_length (first_endpoint l) v.endpoint, term_length l.nonce.0 l.granted l.expiry v.term.nonce, filters_length l.filters v.filters, v.few_filters)
fields_short (Peer l) v =
    let e = endpoint_text l.endpoint in
    let x = to_be_bytes w16 l.external in
    let p = to_be_bytes w16 l.remote_port in
    let two : length x ≡ 2 = refl in
    let more : length p ≡ 2 = refl in
    omega (arith, length-append (e ++ x ++ l.remote.0 ++ p) (l.nonce.0 ++ to_be_bytes w64 l.granted ++ to_be_bytes w64 l.expiry), length-append (e ++ x ++ l.remote.0) p, length-append (e ++ x) l.remote.0, length-append e x, two, more, endpoint_length l.endpoint v.endpoint, term_length l.nonce.0 l.granted l.expiry v.term.nonce, v.remote)
fields_short (DropMap e) v = omega (arith, endpoint_length e v)
fields_short (DropPeer e remote port) v =
    let p = to_be_bytes w16 port in
    let two : length p ≡ 2 = refl in
    omega (arith, length-append (endpoint_text e ++ remote.0) p, length-append (endpoint_text e) remote.0, two, endpoint_length e v.0, v.1)
fields_short (Rest e external end) v =
    let x = protocol_number e.protocol ∷ to_be_bytes w16 external in
    let p = to_be_bytes w16 e.port in
    let m = to_be_bytes w64 end in
    let three : length x ≡ 3 = refl in
    let two : length p ≡ 2 = refl in
    let eight : length m ≡ 8 = refl in
    omega (arith, length-append (x ++ e.address.0 ++ p) m, length-append (x ++ e.address.0) p, length-append x e.address.0, three, two, eight, v.0.address)
fields_short (Renumber a) v = omega (arith, v)

record_short : (r : Record) → IsValue r → length (record_text r) ≤ 213
record_short r v =
    let m = to_be_bytes w64 r.moment in
    let eight : length m ≡ 8 = refl in
    omega (arith, length-append (kind_of r.change ∷ m) (fields_text r.change), eight, fields_short r.change v.change)

pub record_some : (r : Record) → 0 < length (record_text r)
record_some r = omega arith

records_short : (batch : List Record) → AllByRecursion IsValue batch → length (records_text batch) ≤ 213 * length batch
records_short [] all = omega arith
records_short (r ∷ batch) all = omega (arith, length-append (record_text r) (records_text batch), record_short r all.0, records_short batch all.1)

-- so 16 records always fit a frame
pub is_batch : (batch : List Record) → AllByRecursion IsValue batch → 0 < length batch → length batch ≤ 16 → IsBatch batch
is_batch batch all some few = record { values = all; some = some; few = few; short = omega (arith, records_short batch all, few) }
