-- A request that was read, and where it goes (our own).
use Rattle.std.specs.Prelude.{ℕ, ◌<◌, ◌≤◌, length, Option}
use Rattle.std.specs.Option.{option_map}
use Rattle.pcp_base.specs.declared.asks.Ask.{Ask}
use Rattle.pcp_base.specs.declared.configs.Config.{Config}
use Rattle.pcp_base.specs.declared.datagrams.Datagram.{Datagram}
use Rattle.pcp_base.specs.Asks.{IsWellFormedAsk}
use Rattle.lease_histories.specs.Routes.{route_of}
use Rattle.lease_histories.specs.Entries.{Request, request_of}
use Rattle.lease_house.specs.declared.routes.Routed.{Routed}

abbrev pub routed_to : ℕ → Request → Routed
routed_to place request = record { place = place; ask = request.ask; items = request.items }

-- what a datagram asks, and where; none where it is silent
abbrev pub routed_by : Config → Datagram → Option Routed
routed_by config from = option_map (routed_to (route_of config from)) (request_of config from)

-- a request that may be asked of an external address of the configuration
pub record MayBeAsked (config : Config) (from : Datagram) (place : ℕ) (ask : Ask) : Type 0 where
  pub there : place < length config.externals
  pub formed : IsWellFormedAsk ask
  -- it has an opcode
  pub long : 2 ≤ length from.octets
