-- How a request of a load counts (our own).
use Rattle.std.specs.Prelude.{ℕ, ◌==◌, Bool, List, slice_index, if◌then◌else◌, Option, Some, None}
use Rattle.std.specs.List.{list_any}
use Rattle.pcp_base.specs.declared.datagrams.Entry.{Entry}
use Rattle.pcp_base.specs.declared.leases.Endpoint.{Endpoint}
use Rattle.pcp_base.specs.declared.records.Record.{Record}
use Rattle.pcp_base.specs.declared.records.Change.{Change}
use Rattle.pcp_base.specs.declared.records.Change.TheVariants.{Start, Map, Peer, DropMap, DropPeer, Lose, Mark, Rest, Renumber}
use Rattle.pcp_base.specs.Tables.{Table, first_endpoint, is_map_of, live}
use Rattle.load_summary.specs.declared.counts.LoadKind.{LoadKind}
use Rattle.load_summary.specs.declared.counts.LoadKind.TheVariants.{Granted, Renewed, Deleted, Absent, Refused}

-- whether a MAP lease with this key is live
abbrev pub has_live_key : Table → ℕ → Endpoint → Bool
has_live_key t m key = list_any (is_map_of key) (live t m).maps

-- The kind by what is kept of the request; no request of a load makes another change.
abbrev pub kept_kind : Table → ℕ → Change → Option LoadKind
kept_kind t m (Map lease) = Some (if has_live_key t m (first_endpoint lease) then Renewed else Granted)
kept_kind t m (DropMap key) = Some Deleted
kept_kind t m Start = None
kept_kind t m (Peer lease) = None
kept_kind t m (DropPeer key remote port) = None
kept_kind t m Lose = None
kept_kind t m Mark = None
kept_kind t m (Rest endpoint port end_) = None
kept_kind t m (Renumber address) = None

-- octet 3 of a reply is its result code (RFC 6887, section 7.2), by NAT-PMP the lower octet of its result
-- (RFC 6886, section 3.5): 0 for a success
abbrev pub kind_by : Table → ℕ → (reply : List ℕ) → Option Record → Option LoadKind
kind_by t m reply None = Some (if slice_index reply 3 == 0 then Absent else Refused)
kind_by t m reply (Some kept) = kept_kind t m kept.change

-- of the request of an entry, by the table before it
abbrev pub kind_of : Table → Entry → Option LoadKind
kind_of t e = kind_by t e.moment e.reply e.kept
