-- The requests of a batch, as they are read (our own; for private contracts).
use Rattle.std.specs.Prelude.{◌≡◌, ◌≤◌, List, [], ◌∷◌, length, map, Option, Some, slice_get}
use Rattle.std.specs.List.{AllByRecursion}
use Rattle.std.specs.Option.{option_map}
use Rattle.pcp_base.specs.declared.addresses.Address.{Address}
use Rattle.pcp_base.specs.declared.configs.Config.{Config}
use Rattle.pcp_base.specs.declared.datagrams.Datagram.{Datagram}
use Rattle.pcp_base.specs.Asks.{IsWellFormedAsk}
use Rattle.pcp_base.specs.Epoch.{epoch_of}
use Rattle.pcp_options.specs.declared.options.Item.{Item}
use Rattle.lease_histories.specs.Entries.{reply_text_of}
use Rattle.shard_book.specs.declared.batches.Answered.{Answered}
use Rattle.turned_shards.specs.declared.reading.Requests.{Requests}
use Rattle.turned_shards.specs.declared.reading.Source.{Source}
use Rattle.turned_shards.specs.BatchEntries.{Asked, IsAskedOf}

-- a datagram, and the options that came with it
abbrev pub source_in : List Datagram → Source → Option (Datagram × List Item)
source_in batch s = option_map (λ d. (d, s.items)) (slice_get batch s.at)

abbrev pub source_of : Asked → Option (Datagram × List Item)
source_of a = Some (a.from, a.request.items)

-- the source of this request
pub record IsSourceOf (batch : List Datagram) (s : Source) (a : Asked) : Type 0 where
  pub there : slice_get batch s.at ≡ Some a.from
  pub items : s.items ≡ a.request.items
  pub long : 2 ≤ length a.from.octets

-- these are the requests that were read of the batch
pub record IsReadBy (config : Config) (batch : List Datagram) (asked : List Asked)
    (requests : Requests) : Type 0 where
  pub asks : requests.asks.items ≡ map (λ a. a.request.ask) asked
  pub sources : map (source_in batch) requests.sources.items ≡ map source_of asked
  pub formed : AllByRecursion IsWellFormedAsk requests.asks.items
  pub are : AllByRecursion (IsAskedOf config) asked

-- the reply to a request that an external address answered so, to its sender by its door
abbrev pub reply_to : Address → Asked → Answered → Datagram
reply_to address a x = record {
  peer = a.from.peer;
  port = a.from.port;
  door = a.from.door;
  octets = reply_text_of a.from.octets address a.request.items x.answer
      (epoch_of x.moment x.base);
}

abbrev pub replies_to : Address → List Asked → List Answered → List Datagram
replies_to address (a ∷ asked) (x ∷ answers) =
    reply_to address a x ∷ replies_to address asked answers
replies_to address asked answers = []
