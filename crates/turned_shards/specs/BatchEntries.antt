-- The entries that a shard adds to its history (our own).
use Rattle.std.specs.Prelude.{◌≡◌, ◌≤◌, ℕ, max, List, [], ◌∷◌, filter_map, length, Option, Some}
use Rattle.std.specs.Prelude.{None}
use Rattle.std.specs.List.{cons_option}
use Rattle.std.specs.Option.{option_map}
use Rattle.pcp_base.specs.declared.addresses.Address.{Address}
use Rattle.pcp_base.specs.declared.configs.Config.{Config}
use Rattle.pcp_base.specs.declared.datagrams.Datagram.{Datagram}
use Rattle.pcp_base.specs.declared.datagrams.Entry.{Entry}
use Rattle.pcp_base.specs.declared.records.Change.TheVariants.{Lose}
use Rattle.pcp_base.specs.declared.records.Record.{Record}
use Rattle.pcp_base.specs.States.{State}
use Rattle.pcp_options.specs.Responses.{AreOctets}
use Rattle.lease_store.specs.declared.terms.Terms.{Terms}
use Rattle.lease_core.specs.declared.decided.Decided.{Decided}
use Rattle.lease_core.specs.Decide.{decide}
use Rattle.lease_histories.specs.Entries.{Request, reply_to, request_of}
use Rattle.lease_histories.specs.PlainHouses.{nobody, with_kept}
use Rattle.shard_book.specs.declared.standings.Settled.{Settled}
use Rattle.shard_book.specs.declared.standings.Standing.{Standing}
use Rattle.shard_book.specs.declared.standings.Standing.TheVariants.{Clean, In, Out, Fresh}

-- ---- a batch

-- a datagram, and what it asks
pub record Asked : Type 0 where
  pub from : Datagram
  pub request : Request

abbrev pub asked_by : Datagram → Option Request → Option Asked
asked_by from request = option_map (λ r. record { from = from; request = r }) request

-- those of a batch that aren't silent, in order
abbrev pub asked_in : Config → List Datagram → List Asked
asked_in config batch = filter_map (λ d. asked_by d (request_of config d)) batch

-- octets that ask this
pub record IsAskedOf (config : Config) (a : Asked) : Type 0 where
  pub octets : AreOctets a.from.octets
  pub long : 2 ≤ length a.from.octets
  pub asks : request_of config a.from ≡ Some a.request

-- the entry of a request to an external address on which this is decided at m, with the base told
abbrev pub entry_of : Address → ℕ → ℕ → Asked → Decided → Entry
entry_of address m base a decided = record {
  moment = m;
  from = a.from;
  reply = reply_to a.from.octets address a.request decided m base;
  kept = decided.kept;
  base = base;
}

-- The entries of requests at m, one after the other: each is decided on the state that those before
-- it left.
abbrev pub entries_along : Terms → State → ℕ → ℕ → List Asked → List Entry
entries_along terms s m base [] = []
entries_along terms s m base (a ∷ asked) =
    entry_of terms.external.address m base a (decide terms s m a.request.ask)
    ∷ entries_along terms (with_kept s (decide terms s m a.request.ask).kept) m base asked

-- the reply of an entry, to its sender by the door of the request
abbrev pub reply_in : Entry → Datagram
reply_in e = record {
  peer = e.from.peer;
  port = e.from.port;
  door = e.from.door;
  octets = e.reply;
}

-- ---- what the server itself does

-- a record that the server makes by itself: with the base told, no less than its moment
abbrev pub server_entry : ℕ → Record → Entry
server_entry base r = record {
  moment = r.moment;
  from = nobody;
  reply = [];
  kept = Some r;
  base = max base r.moment;
}

-- the loss of all leases at m
abbrev pub loss_at : ℕ → ℕ → Entry
loss_at m base = server_entry base (record { moment = m; change = Lose })

-- a disk failed: nothing changes
abbrev pub fault_at : ℕ → ℕ → Entry
fault_at m base = record { moment = m; from = nobody; reply = []; kept = None; base = base }

-- ---- a settling

abbrev pub entries_by : ℕ → List Entry → Option Record → Standing → List Entry
entries_by base doubt address Clean = []
entries_by base doubt address In = doubt
entries_by base doubt address Out = []
entries_by base doubt address (Fresh r) =
    server_entry base r ∷ cons_option (option_map (server_entry (max base r.moment)) address) []

-- What a settling adds where these entries were in doubt: all of them or none, as the journal has
-- them, or the records with which it begins anew.
abbrev pub entries_settled : ℕ → List Entry → Settled → List Entry
entries_settled base doubt settled = entries_by base doubt settled.address settled.journal

-- the records of these entries, where those in doubt had the records `unsure`
abbrev pub records_found : List Record → Option Record → Standing → List Record
records_found unsure address Clean = []
records_found unsure address In = unsure
records_found unsure address Out = []
records_found unsure address (Fresh r) = r ∷ cons_option address []
