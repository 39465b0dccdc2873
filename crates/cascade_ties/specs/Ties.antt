-- Ties of clients' endpoints to local ports, in the order made, each with what waits, and until when
-- local ports rest (our own). Times are in milliseconds.
use Rattle.std.specs.Prelude.{◌≡◌, ℕ, ◌+◌, ◌-◌, ◌*◌, ◌==◌, ◌&&◌, nat_le, nat_lt, not, Bool, true, false, List, [], ◌∷◌, ◌++◌, filter, find, count_by, Option, Some, None, unwrap_or, Result, Ok, Err, OnOk, OnErr, if◌then◌else◌, refl}
use Rattle.std.specs.Coded.{Coded, code_by, coded×, coded_list, coded_ℕ}
use Rattle.std.specs.FinMap.{FinMap, code, contains_key, empty, get, insert, retain_keys}
use Rattle.std.specs.List.{list_any, range_with_len}
use Rattle.std.specs.Ordering.{nat_cmp}
use Rattle.pcp_base.specs.declared.addresses.Address.{Address}
use Rattle.pcp_base.specs.declared.leases.Endpoint.{Endpoint}
use Rattle.pcp_base.specs.declared.leases.Protocol.{Protocol}
use Rattle.pcp_base.specs.declared.leases.Protocol.TheVariants.{Tcp, Udp}
use Rattle.pcp_base.specs.Tables.{EachTwo, put, same_address, same_endpoint, same_protocol}
use Rattle.cascade_ties.specs.declared.locals.NoLocal.{NoLocal}
use Rattle.cascade_ties.specs.declared.locals.NoLocal.TheVariants.{Quota, NoPort}
use Rattle.cascade_ties.specs.declared.ties.Tied.{Tied}

-- the range of local ports, the ties, and until when ports rest, by their spots
pub record Ties : Type 0 where
  pub low : ℕ
  pub high : ℕ
  pub each : List Tied
  pub rests : FinMap nat_cmp ℕ

-- the parts of the record, one after the other
abbrev pub ties_code : Coded Tied → Coded Ties
ties_code tied =
    code_by
    (ℕ × (ℕ × (List Tied × FinMap nat_cmp ℕ)))
    (coded× coded_ℕ (coded× coded_ℕ (coded× (coded_list tied) (code coded_ℕ coded_ℕ))))
    (λ t. (t.low, (t.high, (t.each, t.rests))))
    (λ p. record { low = p.0; high = p.1.0; each = p.1.1.0; rests = p.1.1.1 })
    (λ _. refl)

abbrev pub no_ties : ℕ → ℕ → Ties
no_ties low high = record { low = low; high = high; each = []; rests = empty }

-- where the rest of a port stands
abbrev pub spot : Protocol → ℕ → ℕ
spot Tcp port = 2 * port
spot Udp port = 2 * port + 1

-- whether the tie is that of the endpoint
abbrev pub has_client : Endpoint → Tied → Bool
has_client client t = same_endpoint t.tie.client client

-- whether the tie is to this local port of the protocol
abbrev pub has_local : Protocol → ℕ → Tied → Bool
has_local protocol port t = same_protocol t.tie.client.protocol protocol && t.tie.local == port

abbrev pub tie_of : Endpoint → List Tied → Option Tied
tie_of client ts = find (has_client client) ts

abbrev pub tie_at : Protocol → ℕ → List Tied → Option Tied
tie_at protocol port ts = find (has_local protocol port) ts

-- two ties are of two endpoints, and to two local ports where their protocol is one
pub record AreOtherTies (a b : Tied) : Type 0 where
  pub clients : has_client b.tie.client a ≡ false
  pub locals : has_local b.tie.client.protocol b.tie.local a ≡ false

abbrev pub TiesDiffer : List Tied → Type 0
TiesDiffer ts = EachTwo AreOtherTies ts

-- ---- the local port of a new tie

-- how many ties an address has
abbrev pub ties_held : Address → List Tied → ℕ
ties_held who ts = count_by (λ t. same_address t.tie.client.address who) ts

-- whether a port is in the range, no tie of the protocol is to it, and it doesn't rest
abbrev pub is_vacant : Ties → Protocol → ℕ → Bool
is_vacant ts protocol port =
    nat_le ts.low port && nat_le port ts.high && not (list_any (has_local protocol port) ts.each)
    && not (contains_key ts.rests (spot protocol port))

-- the least vacant port
unfoldable pub least_vacant : Ties → Protocol → Option ℕ
least_vacant ts protocol =
    find (is_vacant ts protocol) (range_with_len ts.low (ts.high + 1 - ts.low))

-- the client's own port, where it is vacant, else the least vacant one
abbrev pub vacant_for : Ties → Endpoint → Option ℕ
vacant_for ts client =
    if is_vacant ts client.protocol client.port then Some client.port
    else least_vacant ts client.protocol

abbrev pub or_no_port : Option ℕ → Result ℕ NoLocal
or_no_port None = Err NoPort
or_no_port (Some port) = Ok port

-- the local port for a new tie of an endpoint, unless its address has 64 ties
abbrev pub local_for : Ties → Endpoint → Result ℕ NoLocal
local_for ts client =
    if nat_le 64 (ties_held client.address ts.each) then Err Quota
    else or_no_port (vacant_for ts client)

-- ---- what calls make of ties

-- an endpoint without a tie, and a vacant port
pub record MayTie (ts : Ties) (t : Tied) : Type 0 where
  pub client : tie_of t.tie.client ts.each ≡ None
  pub local : is_vacant ts t.tie.client.protocol t.tie.local ≡ true

abbrev pub with_tie : Ties → Tied → Ties
with_tie ts t = record ts { each = ts.each ++ t ∷ [] }

-- an endpoint with a tie to the same local port
pub record MayChange (ts : Ties) (t : Tied) : Type 0 where
  pub old : Tied
  pub client : tie_of t.tie.client ts.each ≡ Some old
  pub local : old.tie.local ≡ t.tie.local

-- in the place of the tie of its endpoint
abbrev pub with_change : Ties → Tied → Ties
with_change ts t = record ts { each = put (has_client t.tie.client) t ts.each }

abbrev pub without : Ties → Endpoint → Ties
without ts client = record ts { each = filter (λ t. not (has_client client t)) ts.each }

-- an endpoint has a tie to this local port
pub record MayRest (ts : Ties) (client : Endpoint) (local : ℕ) : Type 0 where
  pub tied : Tied
  pub found : tie_of client ts.each ≡ Some tied
  pub port : tied.tie.local ≡ local

-- a local port rests until a time, also behind the tie to it
abbrev pub with_rest : Ties → Protocol → ℕ → ℕ → Ties
with_rest ts protocol port until =
    record ts { rests = insert ts.rests (spot protocol port) until }

-- an endpoint with a tie to one local port, and a vacant port
pub record MayMove (ts : Ties) (from : ℕ) (t : Tied) : Type 0 where
  pub old : Tied
  pub client : tie_of t.tie.client ts.each ≡ Some old
  pub leaves : old.tie.local ≡ from
  pub local : is_vacant ts t.tie.client.protocol t.tie.local ≡ true

-- whether a tie's time has come
abbrev pub is_over : ℕ → Tied → Bool
is_over now t = nat_le t.tie.until_ms now

-- the rests that last on behind a time
abbrev pub rests_after : ℕ → FinMap nat_cmp ℕ → FinMap nat_cmp ℕ
rests_after now rests = retain_keys rests (λ at. nat_lt now (unwrap_or (get rests at) 0))

-- the ties whose time hasn't come, and the rests that last on
abbrev pub still : ℕ → Ties → Ties
still now ts = record ts {
  each = filter (λ t. not (is_over now t)) ts.each;
  rests = rests_after now ts.rests;
}

-- a call that changes the ties so, or fails and changes nothing
pub record MakesTies {X E : Type 0} (old made : Ties) (result : Result X E) (new : Ties) : Type 0
  where
    pub ok : OnOk result (new ≡ made)
    pub err : OnErr result (new ≡ old)
