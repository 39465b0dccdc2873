-- A line has no number but whole ones.
use Rattle.std.proofs.Common.{◌≡◌, List, [], ◌∷◌, false, refl, map}
use Rattle.serde_json.specs.View.{items_of}
use Rattle.serde_json.specs.Written.{has_float, items_have_float}
use Rattle.pcp_base.specs.declared.leases.Filter.{Filter}
use Rattle.lease_json.specs.Objects.{filter_value}
use Rattle.journal_watch.specs.declared.happenings.Happening.{Happening}
use Rattle.journal_watch.specs.declared.happenings.Happening.TheVariants.{AreLost, Begins, DeletedMap, DeletedPeer, EndedMap, EndedPeer, FoundMap, FoundPeer, GoneMap, GonePeer, GrantedMap, GrantedPeer, Named, RenewedMap, RenewedPeer}
use Rattle.watch_lines.specs.Lines.{line_value}
use Rattle.watch_lines.specs.declared.settings.Setting.{Setting}

filters : (fs : List Filter) → items_have_float (items_of (map filter_value fs)) ≡ false
filters [] = refl
filters (f ∷ fs) = filters fs

pub no_float : (s : Setting) (h : Happening) → has_float (line_value s h) ≡ false
no_float s (Begins generation gap) = refl
no_float s (FoundMap l) = rw (filters l.filters) refl
no_float s (FoundPeer l) = refl
no_float s (GoneMap l) = rw (filters l.filters) refl
no_float s (GonePeer l) = refl
no_float s (GrantedMap l) = rw (filters l.filters) refl
no_float s (GrantedPeer l) = refl
no_float s (RenewedMap l) = rw (filters l.filters) refl
no_float s (RenewedPeer l) = refl
no_float s (DeletedMap l) = rw (filters l.filters) refl
no_float s (DeletedPeer l) = refl
no_float s (AreLost leases) = refl
no_float s (Named address) = refl
no_float s (EndedMap l) = rw (filters l.filters) refl
no_float s (EndedPeer l) = refl
