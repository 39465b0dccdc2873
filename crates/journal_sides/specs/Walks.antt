-- What a walk over the frames of a side has found, part by part (our own). A walk goes on from a
-- state.
use Rattle.std.specs.Prelude.{◌≡◌, ◌≢◌, ◌+◌, ◌-◌, ◌<◌, ◌≤◌, ℕ, Bool, true, false, List, ◌∷◌, ◌++◌, length, drop, Option, Some, None}
use Rattle.std.specs.List.{AllByRecursion}
use Rattle.pcp_base.specs.declared.records.Record.{Record}
use Rattle.pcp_base.specs.States.{State, empty_state}
use Rattle.lease_records.specs.Values.{IsValue}
use Rattle.journal_sides.specs.declared.layout.TheConstants.{LONGEST_FRAME, MOST_RECORDS, SIDE_HEAD}
use Rattle.journal_sides.specs.declared.formats.Format.{Format}
use Rattle.journal_sides.specs.declared.walks.Stop.{Stop}
use Rattle.journal_sides.specs.declared.walks.Stop.TheVariants.{Ended, Stuck, Short}
use Rattle.journal_sides.specs.declared.walks.Turn.{Turn}
use Rattle.journal_sides.specs.declared.walks.Turn.TheVariants.{Framed, Over}
use Rattle.journal_sides.specs.Formats.{AllFitBy, apply_all_by}
use Rattle.journal_sides.specs.Frames.{IsBatch, frame_text, frames_text, records_of, records_text}

-- the octets are those of a batch that fits, and it leads to the state now
pub record IsReadBatch (format : Format) (s now : State) (octets : List ℕ) : Type 0 where
  pub batch : List Record
  pub values : AllByRecursion IsValue batch
  pub few : length batch ≤ MOST_RECORDS
  pub fit : AllFitBy format s batch
  pub text : octets ≡ records_text batch
  pub leads : now ≡ apply_all_by format s batch

-- no batch that fits has these octets
abbrev pub IsNoBatch : Format → State → List ℕ → Type 0
IsNoBatch format s octets =
    (batch : List Record) → IsBatch batch → AllFitBy format s batch →
    ¬ (octets ≡ records_text batch)

abbrev pub BatchMeans : Format → (s now : State) → List ℕ → Bool → Type 0
BatchMeans format s now octets true = IsReadBatch format s now octets
BatchMeans format s now octets false = IsNoBatch format s octets

-- the walk can't end at these octets, nor go on
pub record IsStuckAt (format : Format) (s : State) (octets : List ℕ) : Type 0 where
  pub not_ended : (gate : ℕ) (behind : List ℕ) → gate ≢ 1 → ¬ (octets ≡ gate ∷ behind)
  pub no_frame : (batch : List Record) (behind : List ℕ) → IsBatch batch → AllFitBy format s batch
      → ¬ (octets ≡ 1 ∷ (frame_text batch ++ behind))

-- a gate that isn't open stands in front
pub record IsEnded (octets : List ℕ) : Type 0 where
  pub gate : ℕ
  pub behind : List ℕ
  pub closed : gate ≢ 1
  pub text : octets ≡ gate ∷ behind

-- a frame of n octets with its gate stands in front
pub record IsFramed (format : Format) (s now : State) (octets : List ℕ) (n : ℕ) : Type 0 where
  pub batch : List Record
  pub is : IsBatch batch
  pub fit : AllFitBy format s batch
  pub size : n ≡ 1 + length (frame_text batch)
  pub text : octets ≡ (1 ∷ frame_text batch) ++ drop n octets
  pub leads : now ≡ apply_all_by format s batch

-- Why a walk goes no further than these octets, behind which others may follow. Where a frame is
-- cut short there are fewer octets than the longest frame has.
abbrev pub StopMeans : Format → (s now : State) → List ℕ → Stop → Type 0
StopMeans format s now octets Ended = IsEnded octets × (now ≡ s)
StopMeans format s now octets Stuck = (more : List ℕ) → IsStuckAt format s (octets ++ more)
StopMeans format s now octets Short =
    IsStuckAt format s octets × (length octets < LONGEST_FRAME) × (now ≡ s)

abbrev pub TurnMeans : Format → (s now : State) → List ℕ → Turn → Type 0
TurnMeans format s now octets (Framed n) = IsFramed format s now octets n
TurnMeans format s now octets (Over stop) = StopMeans format s now octets stop

-- the octets begin with whole frames, n octets of them, which lead to the state now
pub record HasFrames (format : Format) (s now : State) (octets : List ℕ) (n : ℕ) : Type 0 where
  pub batches : List (List Record)
  pub each : AllByRecursion IsBatch batches
  pub fit : AllFitBy format s (records_of batches)
  pub size : n ≡ length (frames_text batches)
  pub text : octets ≡ frames_text batches ++ drop n octets
  pub leads : now ≡ apply_all_by format s (records_of batches)

-- whole frames, n octets of them, and then this
pub record PieceMeans (format : Format) (s now : State) (octets : List ℕ) (n : ℕ)
    (stop : Stop) : Type 0 where
  pub mid : State
  pub frames : HasFrames format s mid octets n
  pub then_ : StopMeans format mid now (drop n octets) stop

-- The walk over a side, from the gate of its first frame on: it ends at this place at a closed
-- gate, or the side isn't in the grammar.
pub record WalkEnds (format : Format) (now : State) (octets : List ℕ) (place : ℕ) : Type 0 where
  pub frames : HasFrames format empty_state now (drop SIDE_HEAD octets) (place - SIDE_HEAD)
  pub past : SIDE_HEAD ≤ place
  pub here : IsEnded (drop place octets)

pub record WalkFails (format : Format) (octets : List ℕ) : Type 0 where
  pub place : ℕ
  pub past : SIDE_HEAD ≤ place
  pub mid : State
  pub frames : HasFrames format empty_state mid (drop SIDE_HEAD octets) (place - SIDE_HEAD)
  pub stuck : IsStuckAt format mid (drop place octets)

abbrev pub WalkMeans : Format → State → List ℕ → Option ℕ → Type 0
WalkMeans format now octets (Some place) = WalkEnds format now octets place
WalkMeans format now octets None = WalkFails format octets
