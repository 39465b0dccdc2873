-- What is decided on a MAP request (RFC 6887, sections 11.3, 13 and 15; sets of ports: RFC 7753;
-- the choice of ports and the order of the cases are our own).
use Rattle.std.specs.Prelude.{ℕ, ◌+◌, ◌-◌, ◌%◌, ◌==◌, ◌&&◌, nat_le, nat_lt, min, not, Bool, false, bytes_eq, List, [], ◌∷◌, length, Option, Some, None, is_none, unwrap_or, if◌then◌else◌}
use Rattle.std.specs.Option.{option_map_or}
use Rattle.pcp_base.specs.declared.leases.TheConstants.{MOST_PORTS, MOST_FILTERS}
use Rattle.pcp_base.specs.declared.leases.Filter.{Filter}
use Rattle.pcp_base.specs.declared.leases.MapLease.{MapLease}
use Rattle.pcp_base.specs.declared.codes.Code.TheVariants.{NoResources, UserExQuota, CannotProvideExternal, ExcessiveRemotePeers}
use Rattle.pcp_base.specs.declared.asks.PortSet.{PortSet}
use Rattle.pcp_base.specs.declared.asks.MapAsk.{MapAsk}
use Rattle.pcp_base.specs.declared.asks.Answer.TheVariants.{Gone, Mapped}
use Rattle.pcp_base.specs.declared.records.Change.TheVariants.{Map, DropMap}
use Rattle.pcp_base.specs.Tables.{first_endpoint}
use Rattle.pcp_base.specs.Owners.{owned}
use Rattle.pcp_base.specs.States.{State}
use Rattle.pcp_base.specs.Cases.{Case, first_case}
use Rattle.filter_rules.specs.Filters.{fold_filters}
use Rattle.external_pool.specs.declared.asks.Picked.{Picked}
use Rattle.lease_store.specs.declared.terms.Terms.{Terms}
use Rattle.lease_store.specs.Lookups.{covering, named_port, next_inside, up_to_next}
use Rattle.lease_store.specs.Picks.{pick}
use Rattle.lease_core.specs.declared.decided.Decided.{Decided}
use Rattle.lease_core.specs.Answers.{granted_lifetime, answered, answered_with, refused, refused_until, gone, is_port_met, is_address_met, is_full, port_within}

-- ---- what is asked

-- how many ports are asked for: the size of the PORT_SET, or one
abbrev pub size_asked : MapAsk → ℕ
size_asked ask = option_map_or (λ set. set.size) ask.set 1

-- the remainder by 2 that the first external port is to have: where the PORT_SET has the parity
-- bit, that of the internal port
abbrev pub parity_of : Option PortSet → ℕ → Option ℕ
parity_of None internal = None
parity_of (Some set) internal = if set.parity then Some (internal % 2) else None

abbrev pub parity_asked : MapAsk → Option ℕ
parity_asked ask = parity_of ask.set ask.endpoint.port

-- ---- which ports are given

-- how many ports may be given from the endpoint on, apart from the quota
abbrev pub room_inside : State → ℕ → MapAsk → ℕ
room_inside s m ask = up_to_next (next_inside s.table m ask.endpoint) ask.endpoint.port
    (min (size_asked ask) (min MOST_PORTS (65536 - ask.endpoint.port)))

-- and with what the quota leaves
abbrev pub room_for : Terms → State → ℕ → MapAsk → ℕ
room_for terms s m ask =
    min (room_inside s m ask) (terms.quota - owned s.table m ask.endpoint.address)

-- where a PEER lease names the endpoint, its external port alone, else the pick
abbrev pub choice_by : Option ℕ → Terms → State → ℕ → MapAsk → Option Picked
choice_by (Some port) terms s m ask = Some (record { start = port; count = 1 })
choice_by None terms s m ask =
    pick terms s m ask.endpoint ask.port (parity_asked ask) (room_for terms s m ask)

-- whether there is a choice that is all that was asked for and suggested
abbrev pub is_wanted : Terms → MapAsk → Option Picked → Bool
is_wanted terms ask None = false
is_wanted terms ask (Some run) = run.count == size_asked ask
    && is_port_met ask.port run.start && is_address_met ask.address terms.external.address

-- ---- what is told and kept of a lease

-- where the request has PORT_SET and the lease more than one port, the first external port is told,
-- else that of the endpoint itself
abbrev pub port_told_by : Option PortSet → MapAsk → MapLease → ℕ
port_told_by None ask lease = port_within ask.endpoint lease
port_told_by (Some set) ask lease =
    if nat_lt 1 lease.count then lease.external else port_within ask.endpoint lease

abbrev pub port_told : MapAsk → MapLease → ℕ
port_told ask lease = port_told_by ask.set ask lease

-- and only then its set, with the parity bit as asked
abbrev pub set_told : Option PortSet → MapLease → Option PortSet
set_told None lease = None
set_told (Some set) lease =
    if nat_lt 1 lease.count
    then Some (record { size = lease.count; first = lease.internal; parity = set.parity })
    else None

-- the lease is granted or renewed
abbrev pub mapped : Terms → ℕ → MapAsk → MapLease → Decided
mapped terms m ask lease = answered_with m
    (Mapped (granted_lifetime terms ask.lifetime) (port_told ask lease) terms.external.address
    (set_told ask.set lease))
    (Map lease)

-- the lease with another expiry, and the filters folded; nothing else changes
abbrev pub renewed : Terms → ℕ → MapAsk → MapLease → MapLease
renewed terms m ask lease = record lease {
  expiry = m + granted_lifetime terms ask.lifetime;
  filters = fold_filters lease.filters ask.filters;
}

-- a lease of the chosen ports
abbrev pub new_lease : Terms → ℕ → MapAsk → Picked → MapLease
new_lease terms m ask run = record {
  address = ask.endpoint.address;
  protocol = ask.endpoint.protocol;
  internal = ask.endpoint.port;
  count = run.count;
  external = run.start;
  nonce = ask.nonce;
  granted = m;
  expiry = m + granted_lifetime terms ask.lifetime;
  filters = fold_filters [] ask.filters;
}

-- whether too many filters are left
abbrev pub has_excess : List Filter → MapAsk → Bool
has_excess old ask = nat_lt MOST_FILTERS (length (fold_filters old ask.filters))

-- ---- the cases, of which the first that applies decides

-- a live MAP lease covers the endpoint
abbrev pub covered_cases : Terms → ℕ → MapAsk → MapLease → List (Case Decided)
covered_cases terms m ask lease =
    -- its nonce differs
    (record {
      applies = not (bytes_eq lease.nonce.0 ask.nonce.0);
      result = refused_until m lease.expiry;
    })
    -- a deletion: the whole lease goes
    ∷ (record {
      applies = ask.lifetime == 0;
      result = gone m (DropMap (first_endpoint lease));
    })
    -- PREFER_FAILURE, and the suggestion isn't met by the port that would be told
    ∷ (record {
      applies = ask.prefer && not (is_port_met ask.port (port_told ask lease)
          && is_address_met ask.address terms.external.address);
      result = refused CannotProvideExternal;
    })
    ∷ (record {
      applies = has_excess lease.filters ask;
      result = refused ExcessiveRemotePeers;
    })
    ∷ []

-- none does; named is the external port of PEER leases that name the endpoint
abbrev pub uncovered_cases : Terms → State → ℕ → MapAsk → Option ℕ → Option Picked
    → List (Case Decided)
uncovered_cases terms s m ask named choice =
    -- a deletion
    (record { applies = ask.lifetime == 0; result = answered Gone })
    -- no PEER lease names the endpoint, and the address owns its quota
    ∷ (record {
      applies = is_none named && nat_le terms.quota (owned s.table m ask.endpoint.address);
      result = refused UserExQuota;
    })
    -- PREFER_FAILURE, and there is no choice, or it isn't all that was asked for and suggested
    ∷ (record {
      applies = ask.prefer && not (is_wanted terms ask choice);
      result = refused CannotProvideExternal;
    })
    -- no port
    ∷ (record { applies = is_none choice; result = refused NoResources })
    -- no room for a lease
    ∷ (record { applies = is_full s.table m; result = refused NoResources })
    ∷ (record { applies = has_excess [] ask; result = refused ExcessiveRemotePeers })
    ∷ []

-- a lease at the choice, which there is where no case applies
abbrev pub granted : Terms → ℕ → MapAsk → Option Picked → Decided
granted terms m ask choice =
    mapped terms m ask (new_lease terms m ask (unwrap_or choice (record { start = 0; count = 0 })))

abbrev pub uncovered_by : Terms → State → ℕ → MapAsk → Option ℕ → Option Picked → Decided
uncovered_by terms s m ask named choice =
    unwrap_or (first_case (uncovered_cases terms s m ask named choice))
    (granted terms m ask choice)

abbrev pub uncovered : Terms → State → ℕ → MapAsk → Option ℕ → Decided
uncovered terms s m ask named =
    uncovered_by terms s m ask named (choice_by named terms s m ask)

abbrev pub covered : Terms → ℕ → MapAsk → MapLease → Decided
covered terms m ask lease =
    unwrap_or (first_case (covered_cases terms m ask lease))
    (mapped terms m ask (renewed terms m ask lease))

abbrev pub decide_map_by : Terms → State → ℕ → MapAsk → Option MapLease → Decided
decide_map_by terms s m ask (Some lease) = covered terms m ask lease
decide_map_by terms s m ask None =
    uncovered terms s m ask (named_port s.table m ask.endpoint)

unfoldable pub decide_map : Terms → State → ℕ → MapAsk → Decided
decide_map terms s m ask = decide_map_by terms s m ask (covering s.table m ask.endpoint)
