-- Requests by their spelling, with the numbers of RFC 6886, sections 3.2 and 3.3, apart from reading. Reserved
-- octets are any, and so is what stands behind a request (the latter is our own).
use Rattle.std.specs.Prelude.{◌≡◌, ℕ, ◌^◌, ◌<◌, List, ◌∷◌, ◌++◌, length, true, Some}
use Rattle.std.specs.Int.{to_be_bytes, w16, w32}
use Rattle.pcp_base.specs.declared.addresses.Address.{Address}
use Rattle.pcp_base.specs.declared.leases.Protocol.{Protocol}
use Rattle.pcp_base.specs.declared.leases.Protocol.TheVariants.{Tcp, Udp}
use Rattle.pcp_base.specs.declared.asks.MapAsk.{MapAsk}
use Rattle.pcp_base.specs.declared.configs.Config.{Config}
use Rattle.pcp_base.specs.Pairing.{place_of}
use Rattle.natpmp_front.specs.Requests.{is_v4, map_ask}
use Rattle.natpmp_front.specs.Verdicts.{has_v4_external}

-- a request for the external address: version 0, operation 0 (section 3.2)
abbrev pub IsAddressRequest : List ℕ → Type 0
IsAddressRequest message = (behind : List ℕ) × (message ≡ 0 ∷ 0 ∷ behind)

-- the operation that asks for a mapping of a protocol (section 3.3)
abbrev pub map_operation : Protocol → ℕ
map_operation Udp = 1
map_operation Tcp = 2

-- a request for a mapping: version 0, operation, 2 reserved octets, internal port, suggested external port,
-- lifetime (section 3.3)
pub record IsMapRequest (message : List ℕ) (protocol : Protocol)
    (internal suggested lifetime : ℕ) : Type 0 where
  pub reserved : List ℕ
  pub two : length reserved ≡ 2
  pub behind : List ℕ
  pub spelled : message ≡ 0 ∷ map_operation protocol ∷ reserved ++ to_be_bytes w16 internal
      ++ to_be_bytes w16 suggested ++ to_be_bytes w32 lifetime ++ behind
  pub ports_fit : (internal < 2 ^ 16) × (suggested < 2 ^ 16)
  pub lifetime_fits : lifetime < 2 ^ 32

-- a host with an IPv4 address that shares the external address of this index
pub record IsHost (config : Config) (source : Address) (shard : ℕ) : Type 0 where
  pub v4 : is_v4 source ≡ true
  pub place : place_of config.subscribers source ≡ Some shard

-- a host asks for this mapping, of its own address (section 3.3) and of a port that isn't 0
pub record IsMapAsked (config : Config) (source : Address) (message : List ℕ) (shard : ℕ)
    (a : MapAsk) : Type 0 where
  pub host : IsHost config source shard
  pub request : IsMapRequest message a.endpoint.protocol a.endpoint.port a.port a.lifetime
  pub port : 0 < a.endpoint.port
  pub plain : a ≡ map_ask source a.endpoint.protocol a.endpoint.port a.port a.lifetime

-- a host asks for its external address, which is an IPv4 address
pub record IsAddressAsked (config : Config) (source : Address) (message : List ℕ)
    (shard : ℕ) : Type 0 where
  pub host : IsHost config source shard
  pub request : IsAddressRequest message
  pub external : has_v4_external config (Some shard) ≡ true
