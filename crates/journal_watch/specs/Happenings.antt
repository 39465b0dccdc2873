-- What becomes of the leases of an external address, told one after the other (our own).
use Rattle.std.specs.Prelude.{ℕ, ◌+◌, Bool, List, [], ◌∷◌, ◌++◌, map, filter, find, fold, length, not, is_some, if◌then◌else◌}
use Rattle.pcp_base.specs.declared.addresses.Address.{Address}
use Rattle.pcp_base.specs.declared.leases.MapLease.{MapLease}
use Rattle.pcp_base.specs.declared.leases.PeerLease.{PeerLease}
use Rattle.pcp_base.specs.declared.records.Change.{Change}
use Rattle.pcp_base.specs.declared.records.Change.TheVariants.{Map, Peer, DropMap, DropPeer, Lose, Renumber}
use Rattle.pcp_base.specs.declared.records.Record.{Record}
use Rattle.pcp_base.specs.Tables.{Table, empty_table, live, dead, put, first_endpoint, is_map_of, is_peer_of}
use Rattle.pcp_base.specs.States.{State}
use Rattle.pcp_base.specs.Apply.{deleted}
use Rattle.journal_watch.specs.declared.happenings.Happening.{Happening}
use Rattle.journal_watch.specs.declared.happenings.Happening.TheVariants.{AreLost, DeletedMap, DeletedPeer, EndedMap, EndedPeer, FoundMap, FoundPeer, GoneMap, GonePeer, GrantedMap, GrantedPeer, Named, RenewedMap, RenewedPeer}

-- these leases, MAP leases first, each in the order of its list
abbrev pub each : (MapLease → Happening) → (PeerLease → Happening) → Table → List Happening
each of_map of_peer t = map of_map t.maps ++ map of_peer t.peers

-- what of the leases that are shown isn't live at m
abbrev pub ended_by : Table → ℕ → List Happening
ended_by shown m = each EndedMap EndedPeer (dead shown m)

-- what a change does to the leases that are live at its moment
abbrev pub done_to : Table → Change → List Happening
done_to t (Map l) =
    (if is_some (find (is_map_of (first_endpoint l)) t.maps) then RenewedMap l else GrantedMap l) ∷ []
done_to t (Peer l) =
    (if is_some (find (is_peer_of l.endpoint l.remote l.remote_port) t.peers) then RenewedPeer l else GrantedPeer l) ∷ []
done_to t (DropMap e) = each DeletedMap DeletedPeer (deleted (DropMap e) t)
done_to t (DropPeer e remote port) = each DeletedMap DeletedPeer (deleted (DropPeer e remote port) t)
done_to t Lose = AreLost (length t.maps + length t.peers) ∷ []
done_to t (Renumber a) = Named a ∷ []
done_to t change = []

-- what is told of a record, with the state before it and what is shown then
abbrev pub told_of : Table → State → Record → List Happening
told_of shown s r = ended_by shown r.moment ++ done_to (live s.table r.moment) r.change

abbrev pub without_map : MapLease → Table → Table
without_map l t = record t { maps = filter (λ x. not (is_map_of (first_endpoint l) x)) t.maps }

abbrev pub without_peer : PeerLease → Table → Table
without_peer l t = record t { peers = filter (λ x. not (is_peer_of l.endpoint l.remote l.remote_port x)) t.peers }

abbrev pub with_map : MapLease → Table → Table
with_map l t = record t { maps = put (is_map_of (first_endpoint l)) l t.maps }

abbrev pub with_peer : PeerLease → Table → Table
with_peer l t = record t { peers = put (is_peer_of l.endpoint l.remote l.remote_port) l t.peers }

-- what whoever reads the lines shows after one more of them
abbrev pub shown_after : Table → Happening → Table
shown_after t (FoundMap l) = with_map l t
shown_after t (FoundPeer l) = with_peer l t
shown_after t (GrantedMap l) = with_map l t
shown_after t (GrantedPeer l) = with_peer l t
shown_after t (RenewedMap l) = with_map l t
shown_after t (RenewedPeer l) = with_peer l t
shown_after t (GoneMap l) = without_map l t
shown_after t (GonePeer l) = without_peer l t
shown_after t (DeletedMap l) = without_map l t
shown_after t (DeletedPeer l) = without_peer l t
shown_after t (EndedMap l) = without_map l t
shown_after t (EndedPeer l) = without_peer l t
shown_after t (AreLost n) = empty_table
shown_after t happening = t

abbrev pub shown_by : Table → List Happening → Table
shown_by t happenings = fold shown_after t happenings
