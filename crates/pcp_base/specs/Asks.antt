-- Requests that the verdict lets through (RFC 6887, sections 11.1, 12.1 and 13; RFC 7753, section 4.1).
use Rattle.std.specs.Prelude.{◌≡◌, ℕ, ◌<◌, ◌≤◌, [], IfSome, ⊤}
use Rattle.std.specs.List.{AllByRecursion}
use Rattle.pcp_base.specs.declared.asks.MapAsk.{MapAsk}
use Rattle.pcp_base.specs.declared.asks.PeerAsk.{PeerAsk}
use Rattle.pcp_base.specs.declared.asks.Ask.{Ask}
use Rattle.pcp_base.specs.declared.asks.Ask.TheVariants.{Known, Announce, Map, Peer}

-- a port of a host
pub record IsPort (port : ℕ) : Type 0 where
  pub some : 0 < port
  pub below : port ≤ 65535

pub record IsMapAsk (a : MapAsk) : Type 0 where
  pub internal : IsPort a.endpoint.port
  -- 0 for none
  pub suggested : a.port ≤ 65535
  pub set : IfSome a.set (λ set. (0 < set.size) × (set.first ≡ a.endpoint.port))
  pub prefixes : AllByRecursion (λ f. f.prefix ≤ 128) a.filters
  -- a deletion has no filters
  pub deletion : a.lifetime ≡ 0 → a.filters ≡ []

pub record IsPeerAsk (a : PeerAsk) : Type 0 where
  pub internal : IsPort a.endpoint.port
  -- 0 for none
  pub suggested : a.port ≤ 65535
  pub remote : IsPort a.remote_port

abbrev pub IsWellFormedAsk : Ask → Type 0
IsWellFormedAsk (Map a) = IsMapAsk a
IsWellFormedAsk (Peer a) = IsPeerAsk a
IsWellFormedAsk (Known refusal) = ⊤
IsWellFormedAsk Announce = ⊤
