-- The laws of what is told (our own).
use Rattle.std.specs.Prelude.{◌≡◌, ℕ, ◌∷◌, ◌++◌, Bool, true, false, List, fold, length}
use Rattle.pcp_base.specs.declared.leases.MapLease.{MapLease}
use Rattle.pcp_base.specs.declared.leases.PeerLease.{PeerLease}
use Rattle.pcp_base.specs.declared.addresses.Address.{Address}
use Rattle.pcp_base.specs.declared.records.Change.TheVariants.{Map, Peer, Lose, Renumber}
use Rattle.pcp_base.specs.declared.records.Record.{Record}
use Rattle.pcp_base.specs.Tables.{Table}
use Rattle.pcp_base.specs.States.{State, empty_state}
use Rattle.pcp_base.specs.Apply.{table_changed}
use Rattle.journal_watch.specs.Happenings.{done_to, shown_by}
use Rattle.journal_watch.specs.declared.happenings.Happening.TheVariants.{Begins}
use Rattle.journal_watch.specs.Readings.{Life, Reading, Watch, same_life, on_holding, on_reading, told_all}
use Rattle.journal_watch.specs.Readings.Holding.{Counts, Doubt, Goes}

-- What is told of a change that grants, renews, loses or names makes of what is shown what the change makes of the table.
abbrev pub MapsAreTold : Type 0
MapsAreTold = (t : Table) (l : MapLease) → shown_by t (done_to t (Map l)) ≡ table_changed (Map l) t

abbrev pub PeersAreTold : Type 0
PeersAreTold = (t : Table) (l : PeerLease) → shown_by t (done_to t (Peer l)) ≡ table_changed (Peer l) t

abbrev pub LossesAreTold : Type 0
LossesAreTold = (t : Table) → shown_by t (done_to t Lose) ≡ table_changed Lose t

abbrev pub NamesAreTold : Type 0
NamesAreTold = (t : Table) (a : Address) → shown_by t (done_to t (Renumber a)) ≡ table_changed (Renumber a) t

-- What is told at a reading makes of what was shown what is shown then, whatever was read.
abbrev pub LinesComeToShown : Type 0
LinesComeToShown = (step : State → Record → State) (w : Watch) (r : Reading) →
    (on_reading step w r).watch.shown ≡ shown_by w.shown (on_reading step w r).happenings

-- A reading in doubt tells of no record, and what is followed stays.
pub record StaysAsItIs (w after : Watch) : Type 0 where
  pub life : after.life ≡ w.life
  pub count : after.count ≡ w.count
  pub state : after.state ≡ w.state

abbrev pub DoubtChangesNothing : Type 0
DoubtChangesNothing = (step : State → Record → State) (w : Watch) (time : ℕ) →
    StaysAsItIs w (on_reading step w (record { time = time; holds = Doubt })).watch

-- it follows a life of which these records were told
pub record FollowsRecords (step : State → Record → State) (w : Watch) (rs : List Record) : Type 0 where
  pub state : w.state ≡ fold step empty_state rs
  pub count : w.count ≡ length rs

-- Where records come behind those that were told, all of them were told after the reading.
abbrev pub RecordsAreFollowed : Type 0
RecordsAreFollowed = (step : State → Record → State) (w : Watch) (life : Life) (time : ℕ) (gap : Bool)
    (before behind : List Record) → FollowsRecords step w before →
    FollowsRecords step (on_reading step w (record { time = time; holds = Counts life gap (before ++ behind) })).watch
    (before ++ behind)

-- And in one life each of them is told once, in order, and no other is.
abbrev pub EachRecordOnce : Type 0
EachRecordOnce = (step : State → Record → State) (w : Watch) (life : Life) (time : ℕ) (gap : Bool)
    (before behind : List Record) → FollowsRecords step w before → same_life life w.life ≡ true →
    (on_holding step w time (Counts life gap (before ++ behind))).happenings
    ≡ told_all step w.shown w.state behind

-- A life that follows on the one before is taken with all its records too, and those behind the snapshot are told once,
-- in order, as if the life before had gone on.
abbrev pub LivesGoOn : Type 0
LivesGoOn = (step : State → Record → State) (w : Watch) (life : Life) (time : ℕ) (before behind : List Record) →
    FollowsRecords step (on_reading step w (record { time = time; holds = Goes life before behind })).watch (before ++ behind)

abbrev pub LivesAreTold : Type 0
LivesAreTold = (step : State → Record → State) (w : Watch) (life : Life) (time : ℕ) (before behind : List Record) →
    w.state ≡ fold step empty_state before →
    (on_holding step w time (Goes life before behind)).happenings
    ≡ Begins life.generation false ∷ told_all step w.shown w.state behind

-- another life is taken with all its records, whatever was followed
abbrev pub LivesAreTakenWhole : Type 0
LivesAreTakenWhole = (step : State → Record → State) (w : Watch) (life : Life) (time : ℕ) (gap : Bool)
    (rs : List Record) → same_life life w.life ≡ false →
    FollowsRecords step (on_reading step w (record { time = time; holds = Counts life gap rs })).watch rs
