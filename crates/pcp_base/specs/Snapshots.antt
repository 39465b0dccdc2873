-- The records that stand for a state by themselves (our own).
use Rattle.std.specs.Prelude.{ℕ, List, [], ◌∷◌, ◌++◌, map, Option, Some, None}
use Rattle.pcp_base.specs.declared.addresses.Address.{Address}
use Rattle.pcp_base.specs.declared.leases.MapLease.{MapLease}
use Rattle.pcp_base.specs.declared.leases.PeerLease.{PeerLease}
use Rattle.pcp_base.specs.declared.leases.End.{End}
use Rattle.pcp_base.specs.declared.records.Change.TheVariants.{Start, Map, Peer, Mark, Rest, Renumber}
use Rattle.pcp_base.specs.declared.records.Record.{Record}
use Rattle.pcp_base.specs.States.{State}

abbrev pub address_records : ℕ → Option Address → List Record
address_records m None = []
address_records m (Some a) = record { moment = m; change = Renumber a } ∷ []

abbrev pub end_record : ℕ → End → Record
end_record m e = record { moment = m; change = Rest e.endpoint e.external e.end }

abbrev pub map_record : ℕ → MapLease → Record
map_record m l = record { moment = m; change = Map l }

abbrev pub peer_record : ℕ → PeerLease → Record
peer_record m l = record { moment = m; change = Peer l }

-- a Start at the base, the address, a Mark at the last moment, and at it the ends and the leases in their order
abbrev pub snapshot : State → List Record
snapshot s = record { moment = s.base; change = Start } ∷ address_records s.base s.address
    ++ (record { moment = s.last; change = Mark } ∷ map (end_record s.last) s.ends
    ++ (map (map_record s.last) s.table.maps ++ map (peer_record s.last) s.table.peers))
