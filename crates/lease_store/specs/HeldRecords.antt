-- The records of what a state holds (our own).
use Rattle.std.specs.Prelude.{List, ◌++◌, map}
use Rattle.pcp_base.specs.declared.records.Record.{Record}
use Rattle.pcp_base.specs.Snapshots.{end_record, map_record, peer_record}
use Rattle.pcp_base.specs.States.{State}

-- a record at the last moment for each end and each lease, in the order that a snapshot has behind
-- its Mark
abbrev pub held_records : State → List Record
held_records s = map (end_record s.last) s.ends
    ++ (map (map_record s.last) s.table.maps ++ map (peer_record s.last) s.table.peers)
