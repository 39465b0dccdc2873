-- What decisions on MAP and PEER requests have in common (RFC 6887, section 15; lifetimes of
-- refusals are our own).
use Rattle.std.specs.Prelude.{ℕ, ◌+◌, ◌-◌, ◌^◌, ◌==◌, ◌&&◌, ◌||◌, min, max, nat_le, Bool, true, bytes_eq, replicate, Option, Some, None, is_none, if◌then◌else◌}
use Rattle.pcp_base.specs.declared.addresses.Address.{Address}
use Rattle.pcp_base.specs.declared.codes.Code.{Code}
use Rattle.pcp_base.specs.declared.codes.Code.TheVariants.{NotAuthorized, NoResources, UserExQuota, CannotProvideExternal}
use Rattle.pcp_base.specs.declared.leases.Endpoint.{Endpoint}
use Rattle.pcp_base.specs.declared.leases.MapLease.{MapLease}
use Rattle.pcp_base.specs.declared.asks.Answer.{Answer}
use Rattle.pcp_base.specs.declared.asks.Answer.TheVariants.{Refused, Gone}
use Rattle.pcp_base.specs.declared.records.Change.{Change}
use Rattle.pcp_base.specs.declared.records.Record.{Record}
use Rattle.pcp_base.specs.Refusals.{parsed}
use Rattle.pcp_base.specs.Tables.{Table, same_address}
use Rattle.pcp_base.specs.Owners.{owned}
use Rattle.pcp_base.specs.Pairing.{v4_octets}
use Rattle.pcp_base.specs.declared.leases.TheConstants.{MOST_LEASES}
use Rattle.external_pool.specs.declared.asks.PickRefused.{PickRefused}
use Rattle.external_pool.specs.declared.asks.PickRefused.TheVariants.{Quota, CannotProvide, NoPort}
use Rattle.lease_store.specs.declared.terms.Terms.{Terms}
use Rattle.lease_store.specs.Lookups.{lease_count}
use Rattle.lease_core.specs.declared.decided.Decided.{Decided}

-- seconds that are granted: those asked for, raised to the least lifetime and lowered to the
-- greatest
abbrev pub granted_lifetime : Terms → ℕ → ℕ
granted_lifetime terms asked = min (max asked terms.lifetime_min) terms.lifetime_max

-- an answer, and the record that is left, if any
abbrev pub decision : Answer → Option Record → Decided
decision answer kept = record { answer = answer; kept = kept }

-- an answer without a record
abbrev pub answered : Answer → Decided
answered answer = record { answer = answer; kept = None }

-- an answer with a record of this moment
abbrev pub answered_with : ℕ → Answer → Change → Decided
answered_with m answer change =
    record { answer = answer; kept = Some (record { moment = m; change = change }) }

-- a refusal of a request that could be read
abbrev pub refused : Code → Decided
refused code = answered (Refused (parsed code))

-- NOT_AUTHORIZED, since the nonce of the lease differs; told is what the lease still has
abbrev pub refused_until : ℕ → ℕ → Decided
refused_until m expiry = answered (Refused (record {
  code = NotAuthorized;
  parsed = true;
  lifetime = min (expiry - m) (2 ^ 32 - 1);
}))

-- the lease is deleted
abbrev pub gone : ℕ → Change → Decided
gone m change = answered_with m Gone change

-- the code for what a pool refuses
abbrev pub code_of : PickRefused → Code
code_of (Quota count) = UserExQuota
code_of CannotProvide = CannotProvideExternal
code_of NoPort = NoResources

-- the external port that a MAP lease gives an endpoint that it covers
abbrev pub port_within : Endpoint → MapLease → ℕ
port_within e lease = lease.external + (e.port - lease.internal)

-- whether there are as many live leases as there may be
abbrev pub is_full : Table → ℕ → Bool
is_full t m = nat_le MOST_LEASES (lease_count t m)

-- why no lease is granted where there is no room for one: given is the port that a live lease gives
-- the endpoint, whose address this is
abbrev pub without_room : Terms → Table → ℕ → Address → Option ℕ → Code
without_room terms t m who given =
    if is_none given && nat_le terms.quota (owned t m who) then UserExQuota else NoResources

-- whether an external port is the suggested one, where one is suggested
abbrev pub is_port_met : ℕ → ℕ → Bool
is_port_met suggested port = suggested == 0 || suggested == port

-- whether no address is suggested: all octets are zero, or it is 0.0.0.0
abbrev pub is_no_address : Address → Bool
is_no_address a = bytes_eq a.0 (replicate 16 0) || bytes_eq a.0 (v4_octets 0 0 0 0)

-- whether the external address is the suggested one, where one is suggested
abbrev pub is_address_met : Address → Address → Bool
is_address_met suggested address = is_no_address suggested || same_address suggested address
