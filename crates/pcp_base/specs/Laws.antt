-- The laws of states and records.
use Rattle.std.specs.Prelude.{◌≡◌, ℕ, ◌≤◌, ◌⊎◌, ◌↔◌, false, true, List, map, Contains}
use Rattle.pcp_base.specs.declared.leases.Endpoint.{Endpoint}
use Rattle.pcp_base.specs.declared.leases.End.{End}
use Rattle.pcp_base.specs.declared.records.Change.{Change}
use Rattle.pcp_base.specs.declared.records.Change.TheVariants.{Mark}
use Rattle.pcp_base.specs.declared.records.Record.{Record}
use Rattle.pcp_base.specs.Tables.{Table, live, dead}
use Rattle.pcp_base.specs.Owners.{owners, is_owned, OneOwner}
use Rattle.pcp_base.specs.States.{State, empty_state}
use Rattle.pcp_base.specs.Ends.{end_at, ends_at_expiry, with_left, ends_by, HasEnded, resting, rests_for}
use Rattle.pcp_base.specs.Records.{IsWellFormedChange}
use Rattle.pcp_base.specs.Apply.{empties, table_changed, table_2, deleted, ends_changed, ends_3, apply, apply_first, state_of, state_of_first}
use Rattle.pcp_base.specs.Sound.{Sound, SoundState}
use Rattle.pcp_base.specs.Fits.{IsAllowed, IsRested, Fits, FitsFirst, AllFit, AllFitFirst}
use Rattle.pcp_base.specs.Rooms.{HasRoom, Suits, SuitsFirst}
use Rattle.pcp_base.specs.Snapshots.{snapshot}
use Rattle.pcp_base.specs.Reached.{IsReached, IsReachedFirst}

-- ---- what is kept

abbrev pub RecordsReach : Type 0
RecordsReach = (rs : List Record) → AllFit empty_state rs → IsReached (state_of rs)

abbrev pub ReachedIsKept : Type 0
ReachedIsKept = (s : State) (r : Record) → IsReached s → Fits s r → IsReached (apply s r)

abbrev pub FirstRecordsReach : Type 0
FirstRecordsReach = (rs : List Record) → AllFitFirst empty_state rs → IsReachedFirst (state_of_first rs)

abbrev pub FirstReachedIsKept : Type 0
FirstReachedIsKept =
    (s : State) (r : Record) → IsReachedFirst s → FitsFirst s r → IsReachedFirst (apply_first s r)

-- at each moment each port has one owner
abbrev pub PortsHaveOneOwner : Type 0
PortsHaveOneOwner = (s : State) (m : ℕ) → SoundState s → OneOwner (owners (live s.table m))

-- ---- what fits

-- the table alone decides whether a sound state stays sound
abbrev pub TablesDecide : Type 0
TablesDecide = (s : State) (r : Record) → SoundState s → IsRested s r.moment r.change →
    Sound (apply s r).table → SoundState (apply s r)

-- a sound table stays sound under an allowed change exactly where it has room for it
abbrev pub RoomDecides : Type 0
RoomDecides =
    (t : Table) (m : ℕ) (change : Change) → Sound t → IsWellFormedChange m change
    → IsAllowed t change →
    Sound (table_changed change t) ↔ HasRoom t change

-- so a record fits after a sound state exactly where it suits it
abbrev pub SuitingFits : Type 0
SuitingFits = (s : State) (r : Record) → SoundState s → Fits s r ↔ Suits s r

-- in the first format too
abbrev pub SuitingFitsFirst : Type 0
SuitingFitsFirst = (s : State) (r : Record) → Sound s.table → FitsFirst s r ↔ SuitsFirst s r

-- ---- ends and rests

-- the ends at m are those of the state, and those that leases left which aren't live any more
abbrev pub EndsAtAMoment : Type 0
EndsAtAMoment = (s : State) (m : ℕ) (e : End) → SoundState s →
    Contains (ends_by s m) e ↔ (Contains s.ends e ⊎ HasEnded s m e)

-- a port rests for one endpoint at most
abbrev pub PortsRestForOne : Type 0
PortsRestForOne = (s : State) (m port : ℕ) (e f : Endpoint) → SoundState s →
    rests_for s m port e ≡ true → rests_for s m port f ≡ true → e.protocol ≡ f.protocol → e ≡ f

-- and only while no live lease owns it
abbrev pub RestingIsUnowned : Type 0
RestingIsUnowned = (s : State) (m port : ℕ) (e : Endpoint) →
    rests_for s m port e ≡ true → is_owned e.protocol port (owners (live s.table m)) ≡ false

-- by the ends that a Mark leaves the ports rest at its moment
abbrev pub MarksTellRests : Type 0
MarksTellRests = (s : State) (m : ℕ) → SoundState s →
    resting s m ≡ (apply s (record { moment = m; change = Mark })).ends

-- the ends at n are those at an earlier m, and those of leases that were live at m and aren't at n
abbrev pub EndsComeInSteps : Type 0
EndsComeInSteps = (s : State) (m n : ℕ) → SoundState s → m ≤ n →
    ends_by s n ≡ with_left (live s.table n) (ends_at_expiry (dead (live s.table m) n)) (ends_by s m)

-- what expired by a record's moment may leave before it: then only its own change remains
abbrev pub RecordsComeLast : Type 0
RecordsComeLast = (s : State) (r : Record) → SoundState s → Fits s r → empties r.change ≡ false →
    ends_3 s r ≡ with_left (table_2 s r) (map (end_at r.moment)
    (owners (deleted r.change (live s.table r.moment))))
    (ends_changed r.change (ends_by s r.moment))

-- ---- snapshots

-- a snapshot's records fit, and they stand for the state
abbrev pub SnapshotsStand : Type 0
SnapshotsStand = (s : State) → IsReached s → s.started ≡ true →
    AllFit empty_state (snapshot s) × (state_of (snapshot s) ≡ s)
