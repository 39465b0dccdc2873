-- The lines of what is told (our own). An object's members stand in the order of their names.
use Rattle.std.specs.Prelude.{ℕ, Bool, List, [], ◌∷◌, ◌++◌, codes, flat_map}
use Rattle.serde_json.specs.Data.{Data, boolean, string, object}
use Rattle.serde_json.specs.Written.{compact_text}
use Rattle.pcp_base.specs.declared.addresses.Address.{Address}
use Rattle.pcp_base.specs.declared.leases.MapLease.{MapLease}
use Rattle.pcp_base.specs.declared.leases.PeerLease.{PeerLease}
use Rattle.lease_json.specs.Objects.{Named, address_value, map_value, members, named, natural, peer_value}
use Rattle.journal_watch.specs.declared.happenings.Happening.{Happening}
use Rattle.journal_watch.specs.declared.happenings.Happening.TheVariants as Happenings
use Rattle.watch_lines.specs.declared.doubts.Doubt.{Doubt}
use Rattle.watch_lines.specs.declared.doubts.Doubt.TheVariants.{Blank, Damaged, Unsettled}
use Rattle.watch_lines.specs.declared.settings.Setting.{Setting}

-- what each line of an external address has but for the moment
abbrev pub place_members : Setting → List ℕ → List Named
place_members s what =
    named (codes "address") (address_value s.address)
    ∷ named (codes "shard") (natural s.shard)
    ∷ named (codes "what") (string what)
    ∷ []

abbrev pub begin_value : Setting → ℕ → Bool → Data
begin_value s generation gap = object (members (
    named (codes "address") (address_value s.address)
    ∷ named (codes "base") (natural s.base)
    ∷ named (codes "gap") (boolean gap)
    ∷ named (codes "generation") (natural generation)
    ∷ named (codes "last") (natural s.last)
    ∷ named (codes "moment") (natural s.moment)
    ∷ named (codes "shard") (natural s.shard)
    ∷ named (codes "what") (string (codes "begin"))
    ∷ []))

-- what became of a lease, in this word
abbrev pub map_line : Setting → List ℕ → MapLease → Data
map_line s what l = object (members (
    named (codes "address") (address_value s.address)
    ∷ named (codes "map") (map_value l)
    ∷ named (codes "moment") (natural s.moment)
    ∷ named (codes "shard") (natural s.shard)
    ∷ named (codes "what") (string what)
    ∷ []))

abbrev pub peer_line : Setting → List ℕ → PeerLease → Data
peer_line s what l = object (members (
    named (codes "address") (address_value s.address)
    ∷ named (codes "moment") (natural s.moment)
    ∷ named (codes "peer") (peer_value l)
    ∷ named (codes "shard") (natural s.shard)
    ∷ named (codes "what") (string what)
    ∷ []))

abbrev pub lost_value : Setting → ℕ → Data
lost_value s leases = object (members (
    named (codes "address") (address_value s.address)
    ∷ named (codes "base") (natural s.base)
    ∷ named (codes "leases") (natural leases)
    ∷ named (codes "moment") (natural s.moment)
    ∷ named (codes "shard") (natural s.shard)
    ∷ named (codes "what") (string (codes "lost"))
    ∷ []))

abbrev pub named_value : Setting → Address → Data
named_value s address = object (members (
    named (codes "address") (address_value address)
    ∷ named (codes "base") (natural s.base)
    ∷ named (codes "moment") (natural s.moment)
    ∷ named (codes "shard") (natural s.shard)
    ∷ named (codes "what") (string (codes "named"))
    ∷ []))

abbrev pub line_value : Setting → Happening → Data
line_value s (Happenings.Begins generation gap) = begin_value s generation gap
line_value s (Happenings.FoundMap l) = map_line s (codes "found") l
line_value s (Happenings.FoundPeer l) = peer_line s (codes "found") l
line_value s (Happenings.GoneMap l) = map_line s (codes "gone") l
line_value s (Happenings.GonePeer l) = peer_line s (codes "gone") l
line_value s (Happenings.GrantedMap l) = map_line s (codes "granted") l
line_value s (Happenings.GrantedPeer l) = peer_line s (codes "granted") l
line_value s (Happenings.RenewedMap l) = map_line s (codes "renewed") l
line_value s (Happenings.RenewedPeer l) = peer_line s (codes "renewed") l
line_value s (Happenings.DeletedMap l) = map_line s (codes "deleted") l
line_value s (Happenings.DeletedPeer l) = peer_line s (codes "deleted") l
line_value s (Happenings.AreLost leases) = lost_value s leases
line_value s (Happenings.Named address) = named_value s address
line_value s (Happenings.EndedMap l) = map_line s (codes "ended") l
line_value s (Happenings.EndedPeer l) = peer_line s (codes "ended") l

-- without spaces, and a line feed
abbrev pub line_text : Setting → Happening → List ℕ
line_text s happening = compact_text (line_value s happening) ++ 10 ∷ []

abbrev pub lines_text : Setting → List Happening → List ℕ
lines_text s happenings = flat_map (line_text s) happenings

-- why a reading tells of no leases
abbrev pub doubt_word : Doubt → List ℕ
doubt_word Blank = codes "blank"
doubt_word Damaged = codes "damaged"
doubt_word Unsettled = codes "unsettled"

abbrev pub doubt_value : Setting → Doubt → Data
doubt_value s doubt = object (members (
    named (codes "address") (address_value s.address)
    ∷ named (codes "moment") (natural s.moment)
    ∷ named (codes "shard") (natural s.shard)
    ∷ named (codes "what") (string (doubt_word doubt))
    ∷ []))

abbrev pub doubt_line : Setting → Doubt → List ℕ
doubt_line s doubt = compact_text (doubt_value s doubt) ++ 10 ∷ []

-- once, behind the first reading of all external addresses: so many leases are shown
abbrev pub ready_value : ℕ → Data
ready_value leases = object (members (
    named (codes "leases") (natural leases)
    ∷ named (codes "what") (string (codes "ready"))
    ∷ []))

abbrev pub ready_line : ℕ → List ℕ
ready_line leases = compact_text (ready_value leases) ++ 10 ∷ []
