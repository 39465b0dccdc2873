-- A dump has no number but whole ones.
use Rattle.std.proofs.Common.{◌≡◌, List, [], ◌∷◌, false, refl, map}
use Rattle.serde_json.specs.View.{items_of}
use Rattle.serde_json.specs.Written.{has_float, items_have_float}
use Rattle.serde_json.specs.Data.{array}
use Rattle.pcp_base.specs.declared.configs.External.{External}
use Rattle.pcp_base.specs.declared.leases.Filter.{Filter}
use Rattle.pcp_base.specs.declared.leases.MapLease.{MapLease}
use Rattle.pcp_base.specs.declared.leases.PeerLease.{PeerLease}
use Rattle.lease_json.specs.Objects.{filter_value, map_value, peer_value}
use Rattle.journal_dump.specs.Dumps.{reading_value, reading_values}
use Rattle.journal_dump.specs.Readings.{JournalReading}
use Rattle.journal_dump.specs.Readings.JournalReading.{Recovered, Blank, Damaged}

filters : (fs : List Filter) → items_have_float (items_of (map filter_value fs)) ≡ false
filters [] = refl
filters (f ∷ fs) = filters fs

maps : (ls : List MapLease) → items_have_float (items_of (map map_value ls)) ≡ false
maps [] = refl
maps (l ∷ ls) = rw (filters l.filters) (maps ls)

peers : (ls : List PeerLease) → items_have_float (items_of (map peer_value ls)) ≡ false
peers [] = refl
peers (l ∷ ls) = peers ls

reading : (e : External) (r : JournalReading) → has_float (reading_value e r) ≡ false
reading e (Recovered s) = rw (maps s.table.maps, peers s.table.peers) refl
reading e Blank = refl
reading e Damaged = refl

values : (es : List External) (rs : List JournalReading) → items_have_float (items_of (reading_values es rs)) ≡ false
values [] rs = refl
values (e ∷ es) [] = refl
values (e ∷ es) (r ∷ rs) = rw (reading e r) (values es rs)

pub no_float : (es : List External) (rs : List JournalReading) → has_float (array (items_of (reading_values es rs))) ≡ false
no_float es rs = values es rs
