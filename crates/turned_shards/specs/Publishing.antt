-- Publishing the records of a history to the lane of its external address (our own).
use Rattle.std.specs.Prelude.{◌≡◌, ◌≤◌, ℕ, List, ◌++◌, take, Some}
use Rattle.std.specs.List.{slice_get}
use Rattle.pcp_base.specs.declared.datagrams.Entry.{Entry}
use Rattle.pcp_base.specs.declared.records.Record.{Record}
use Rattle.pcp_base.specs.Apply.{apply, apply_all}
use Rattle.pcp_base.specs.Sound.{Sound}
use Rattle.pcp_base.specs.States.{State}
use Rattle.lane_index.specs.Lanes.{ToldRecords, WriterKnowledge, told_records}
use Rattle.lease_histories.specs.Legal.{records_of}
use Rattle.turned_shards.specs.declared.openings.Opening.{Opening}
use Rattle.turned_shards.specs.declared.shards.Shard.{Shard}
use Rattle.turned_shards.specs.Shards.{all_records}

-- what is told where all records of the history are published to the lane of the external address
abbrev pub told_of : {D : Type 0} → Opening D → List Entry → ToldRecords
told_of o log = told_records o.lane.index (records_of log)

-- the record may come next: its moment isn't early, and the table after it is sound
pub record IsNextRecord (s : State) (r : Record) : Type 0 where
  pub later : s.last ≤ r.moment
  pub sound : Sound (apply s r).table

-- each of the records may come after those that the writer has, and those before it
abbrev pub MayPush : WriterKnowledge → List Record → Type 0
MayPush w records = (k : ℕ) (r : Record) → slice_get records k ≡ Some r →
    IsNextRecord (apply_all w.opening ((w.published ++ w.pending) ++ take k records)) r

-- only what the writer has, and what waits, is another
abbrev pub IsWithLane : {D : Type 0} → (old new : Shard D) → Type 0
IsWithLane old new = new ≡ record old { writer = new.writer; unpushed = new.unpushed }

-- the shard has the same records for the lane
pub record KeepsRecords {D : Type 0} (old new : Shard D) : Type 0 where
  pub index : new.writer.index ≡ old.writer.index
  pub opening : new.writer.opening ≡ old.writer.opening
  pub all : all_records new ≡ all_records old
