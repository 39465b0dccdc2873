-- What reading a side, or both, has found (our own).
use Rattle.std.specs.Prelude.{◌≡◌, ℕ, ⊤, List, length}
use Rattle.pcp_base.specs.declared.records.Record.{Record}
use Rattle.pcp_base.specs.States.{State}
use Rattle.journal_sides.specs.declared.walks.Judged.{Judged}
use Rattle.journal_sides.specs.declared.walks.Judged.TheVariants.{Closed, Bad, Good}
use Rattle.journal_sides.specs.declared.walks.Standing.{Standing}
use Rattle.journal_sides.specs.Formats.{IsReplaying, state_by}
use Rattle.journal_sides.specs.Frames.{records_of}
use Rattle.journal_sides.specs.Sides.{side_text, IsOpenSide, IsClosedSide, IsBadSide}

-- the side is in the grammar, as is told, and its records lead to this state
pub record IsStanding (parity : ℕ) (octets : List ℕ) (standing : Standing)
    (s : State) : Type 0 where
  pub batches : List (List Record)
  pub side : IsOpenSide standing.format parity octets standing.generation batches
  pub place : standing.end ≡ length (side_text standing.format standing.generation batches)
  pub long : standing.length ≡ length octets
  pub stands : state_by standing.format (records_of batches) ≡ s

-- a side as it was judged
abbrev pub IsSideJudged : ℕ → List ℕ → Judged → Type 0
IsSideJudged parity octets Closed = IsClosedSide octets
IsSideJudged parity octets Bad = IsBadSide parity octets
IsSideJudged parity octets (Good standing) = (s : State) × IsStanding parity octets standing s

-- what a replay holds then that held a state before
abbrev pub Replayed : ℕ → List ℕ → Judged → (before now : State) → Type 0
Replayed parity octets (Good standing) before now = IsStanding parity octets standing now
Replayed parity octets Closed before now = now ≡ before
Replayed parity octets Bad before now = ⊤

-- the replay takes records of the format of a side in the grammar; a closed side leaves it as is
abbrev pub ReplaysOn : {R : Type 0} → (replaying replaying_first : R → Type 0)
    → (old new : R) → Judged → Type 0
ReplaysOn replaying replaying_first old new (Good standing) =
    IsReplaying standing.format replaying replaying_first new
ReplaysOn replaying replaying_first old new Closed = new ≡ old
ReplaysOn replaying replaying_first old new Bad = ⊤
