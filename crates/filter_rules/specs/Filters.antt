-- Filters of a mapping (RFC 6887, section 13.3; that no filter is kept twice is our own).
use Rattle.std.specs.Prelude.{ℕ, ◌==◌, ◌&&◌, ◌||◌, Bool, bytes_eq, List, [], ◌∷◌, ◌++◌, length, fold, if◌then◌else◌}
use Rattle.std.specs.List.{list_any}
use Rattle.pcp_base.specs.declared.addresses.Address.{Address}
use Rattle.pcp_base.specs.declared.leases.Filter.{Filter}
use Rattle.pcp_base.specs.Pairing.{holds}

-- whether the two are equal, with all bits of their addresses
abbrev pub same_filter : Filter → Filter → Bool
same_filter f g = f.prefix == g.prefix && f.port == g.port && bytes_eq f.remote.0 g.remote.0

-- A filter of prefix length 0 empties the list; any other is appended unless it is there.
abbrev pub add_filter : List Filter → Filter → List Filter
add_filter filters f =
    if f.prefix == 0 then []
    else if list_any (same_filter f) filters then filters
    else filters ++ f ∷ []

-- the filters after those of a request, in order
abbrev pub fold_filters : List Filter → List Filter → List Filter
fold_filters old new = fold add_filter old new

-- whether the filter is for this remote peer: its port or every port, and its prefix
abbrev pub is_for : Address → ℕ → Filter → Bool
is_for remote port f =
    (f.port == 0 || f.port == port) && holds (record { bits = f.prefix; address = f.remote }) remote

-- All may send where there is no filter.
abbrev pub allows : List Filter → Address → ℕ → Bool
allows filters remote port = length filters == 0 || list_any (is_for remote port) filters
