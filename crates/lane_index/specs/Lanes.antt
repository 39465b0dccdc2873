-- What a lane and its writer are to contracts (our own).
use Rattle.std.specs.Prelude.{ℕ, List}
use Rattle.logbook.specs.Pages.{Book}
use Rattle.pcp_base.specs.declared.leases.MapLease.{MapLease}
use Rattle.pcp_base.specs.declared.leases.PeerLease.{PeerLease}
use Rattle.pcp_base.specs.declared.records.Record.{Record}
use Rattle.pcp_base.specs.States.{State, empty_state}

-- A lane: the name of its index, the state that this began with, and the published records that it
-- knows.
pub record LaneKnowledge : Type 0 where
  pub index : Book
  pub opening : State
  pub known : List Record

abbrev pub lane_of : Book → State → List Record → LaneKnowledge
lane_of index opening known = record { index = index; opening = opening; known = known }

-- The writer of an index: its name, the state that it began with, the records that were published,
-- and those that were pushed since.
pub record WriterKnowledge : Type 0 where
  pub index : Book
  pub opening : State
  pub published : List Record
  pub pending : List Record

abbrev pub writer_of : Book → State → List Record → List Record → WriterKnowledge
writer_of index opening published pending =
    record { index = index; opening = opening; published = published; pending = pending }

-- what an index is told to have published by some time
pub record ToldRecords : Type 0 where
  pub index : Book
  pub records : List Record

abbrev pub told_records : Book → List Record → ToldRecords
told_records index records = record { index = index; records = records }

-- the state that an index begins with: these leases, and the moment of the last record; no ends, no
-- base and no address
abbrev pub opening_state : List MapLease → List PeerLease → ℕ → State
opening_state maps peers last =
    record empty_state { table = record { maps = maps; peers = peers }; last = last }
