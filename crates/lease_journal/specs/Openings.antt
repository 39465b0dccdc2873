-- What opening a journal may leave, moment by moment (our own).
use Rattle.std.specs.Prelude.{◌≡◌, ◌⊎◌, ℕ, ◌<◌, ⊤, List, [], ◌∷◌, length}
use Rattle.pcp_base.specs.States.{State, empty_state}
use Rattle.lease_disk.specs.Contents.{after_write}
use Rattle.lease_disk.specs.declared.disks.DiskPair.{DiskPair}
use Rattle.lease_disk.specs.Pairs.{PairLeavesOnly}
use Rattle.lease_journal.specs.declared.errors.Found.{Found}
use Rattle.lease_journal.specs.declared.errors.Found.TheVariants.{Recovered, Blank, Damaged}
use Rattle.journal_sides.specs.declared.formats.Format.TheVariants.{Second}
use Rattle.journal_sides.specs.declared.sides.Side.{Side}
use Rattle.journal_sides.specs.declared.sides.Side.TheVariants.{A}
use Rattle.journal_sides.specs.declared.walks.Standing.{Standing}
use Rattle.journal_sides.specs.Journals.{IsBlank, IsDamaged, StandsFor, IsStarting, IsStartingAnew, fresh_state}
use Rattle.journal_sides.specs.Reads.{AreSeenStill}
use Rattle.journal_sides.specs.Shut.{IsShut}
use Rattle.journal_sides.specs.Writes.{AreDurable}

-- After sides that held a and b are read and opened at m, in the middle too, a crash may leave x
-- and y.
abbrev pub MayOpen : ℕ → List ℕ → List ℕ → List ℕ → List ℕ → Type 0
MayOpen m a b x y =
    ((s : State) × StandsFor s a b × StandsFor s x y)
    ⊎ ((IsBlank a b × IsStarting m x y)
    ⊎ (IsDamaged a b × IsStartingAnew m x y))

-- what is found is what the sides held, and the state is that of the records, or of a start at m
abbrev pub FoundMeans : ℕ → List ℕ → List ℕ → State → Found → Type 0
FoundMeans m a b now Recovered = StandsFor now a b
FoundMeans m a b now Blank = IsBlank a b × (now ≡ fresh_state m)
FoundMeans m a b now Damaged = IsDamaged a b × (now ≡ fresh_state m)

-- A zero was written to the gate of a side or, where that was shut already, to the place behind it.
abbrev pub IsFrontWritten : List ℕ → List ℕ → Type 0
IsFrontWritten old new =
    (new ≡ after_write old 0 (0 ∷ [])) ⊎ (IsShut old × (new ≡ after_write old 1 (0 ∷ [])))

-- a side without octets has none still; any other was shut, whatever its gate was
abbrev pub IsShutAnew : List ℕ → List ℕ → Type 0
IsShutAnew old new =
    ((old ≡ []) × (new ≡ old)) ⊎ ((0 < length old) × IsFrontWritten old new)

-- where records were found nothing is written; else side b, beside the start, was shut
abbrev pub IsStillOrShut : {D : Type 0} → (D → List ℕ) → DiskPair D → DiskPair D → Found → Type 0
IsStillOrShut seen old new Recovered = AreSeenStill seen old new
IsStillOrShut seen old new Blank = IsShutAnew (seen old.b) (seen new.b)
IsStillOrShut seen old new Damaged = IsShutAnew (seen old.b) (seen new.b)

-- the same where nothing is started: the state is then empty
abbrev pub ViewMeans : List ℕ → List ℕ → State → Found → Type 0
ViewMeans a b now Recovered = StandsFor now a b
ViewMeans a b now Blank = IsBlank a b × (now ≡ empty_state)
ViewMeans a b now Damaged = IsDamaged a b × (now ≡ empty_state)

-- where no records were found nothing is left in the replay
abbrev pub IsClearedUnless : State → Found → Type 0
IsClearedUnless now Recovered = ⊤
IsClearedUnless now Blank = now ≡ empty_state
IsClearedUnless now Damaged = now ≡ empty_state

-- the replay takes records of one of the formats; where no records were found, of both
abbrev pub ViewReplays : {R : Type 0} → (replaying replaying_first : R → Type 0) → R → Found
    → Type 0
ViewReplays replaying replaying_first replay Recovered = replaying_first replay ⊎ replaying replay
ViewReplays replaying replaying_first replay Blank = replaying_first replay × replaying replay
ViewReplays replaying replaying_first replay Damaged = replaying_first replay × replaying replay

-- a side that a start has written: in format 2, with generation 0
pub record IsNew (standing : Standing) : Type 0 where
  pub second : standing.format ≡ Second
  pub first : standing.generation ≡ 0

-- a start at m was made, on side a
pub record IsStarted (m : ℕ) (side : Side) (standing : Standing) (now : State) : Type 0 where
  pub on_a : side ≡ A
  pub new : IsNew standing
  pub state : now ≡ fresh_state m

-- where no records were found a start was made
abbrev pub HasStarted : ℕ → Side → Standing → State → Found → Type 0
HasStarted m side standing now Recovered = ⊤
HasStarted m side standing now Blank = IsStarted m side standing now
HasStarted m side standing now Damaged = IsStarted m side standing now

-- Until both sides are synced a crash leaves what it might have left before.
abbrev pub LeavesOld : {D : Type 0} → (D → ℕ) → (D → ℕ → List ℕ → Type 0) → (D → List ℕ → Type 0)
    → DiskPair D → DiskPair D → Type 0
LeavesOld moment left_since may_leave old new =
    PairLeavesOnly moment left_since may_leave old new
    (λ x y. may_leave old.a x × may_leave old.b y)

-- At some moment both sides are synced and hold what they held. From then on a crash leaves what
-- the opening may leave.
pub record Opens {D : Type 0} (seen : D → List ℕ) (moment : D → ℕ)
    (left_since : D → ℕ → List ℕ → Type 0) (may_leave : D → List ℕ → Type 0) (m : ℕ)
    (old new : DiskPair D) : Type 0 where
  pub synced : DiskPair D
  pub until : LeavesOld moment left_since may_leave old synced
  pub durable : AreDurable seen may_leave synced
  pub still : AreSeenStill seen old synced
  pub from : PairLeavesOnly moment left_since may_leave synced new
      (MayOpen m (seen old.a) (seen old.b))
