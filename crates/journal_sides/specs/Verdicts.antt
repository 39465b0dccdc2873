-- What reading both sides has found (our own).
use Rattle.std.specs.Prelude.{◌≡◌, ℕ, ⊤, true, List}
use Rattle.pcp_base.specs.States.{State}
use Rattle.journal_sides.specs.declared.judging.Verdict.{Verdict}
use Rattle.journal_sides.specs.declared.judging.Verdict.TheVariants.{Counting, Neither, Broken}
use Rattle.journal_sides.specs.declared.walks.Judged.{Judged}
use Rattle.journal_sides.specs.declared.walks.Judged.TheVariants.{Closed, Bad, Good}
use Rattle.journal_sides.specs.Formats.{HasNext, IsReplaying}
use Rattle.journal_sides.specs.Journals.{IsBlank, IsDamaged}
use Rattle.journal_sides.specs.Judging.{IsSideJudged}
use Rattle.journal_sides.specs.Settled.{StandsBy, IsInReach}

-- some open side isn't in the grammar, and the sides are as told
pub record AreBroken (a b : List ℕ) (judged_a judged_b : Judged) : Type 0 where
  pub damaged : IsDamaged a b
  pub side_a : IsSideJudged 0 a judged_a
  pub side_b : IsSideJudged 1 b judged_b

-- what the sides are, and the state that the records of the one that counts lead to
abbrev pub AreFound : List ℕ → List ℕ → State → Verdict → Type 0
AreFound a b now (Counting side standing) = StandsBy side standing now a b
AreFound a b now Neither = IsBlank a b
AreFound a b now (Broken judged_a judged_b) = AreBroken a b judged_a judged_b

-- the walk over a side that was judged ends within what a disk may hold
abbrev pub IsJudgedInReach : Judged → Type 0
IsJudgedInReach Closed = ⊤
IsJudgedInReach Bad = ⊤
IsJudgedInReach (Good standing) = IsInReach standing

-- and so does that over the side that counts
abbrev pub IsFoundInReach : Verdict → Type 0
IsFoundInReach (Counting side standing) = IsInReach standing
IsFoundInReach Neither = ⊤
IsFoundInReach (Broken judged_a judged_b) = ⊤

-- a side that was judged to be in the grammar has a next generation, by its format
abbrev pub IsJudgedWithNext : Judged → Type 0
IsJudgedWithNext Closed = ⊤
IsJudgedWithNext Bad = ⊤
IsJudgedWithNext (Good standing) = HasNext standing.format standing.generation

-- and so has the side that counts
abbrev pub IsFoundWithNext : Verdict → Type 0
IsFoundWithNext (Counting side standing) = HasNext standing.format standing.generation
IsFoundWithNext Neither = ⊤
IsFoundWithNext (Broken judged_a judged_b) = ⊤

-- the replay takes records of the format of the side that counts
abbrev pub IsFoundReplaying : {R : Type 0} → (replaying replaying_first : R → Type 0) → R
    → Verdict → Type 0
IsFoundReplaying replaying replaying_first replay (Counting side standing) =
    IsReplaying standing.format replaying replaying_first replay
IsFoundReplaying replaying replaying_first replay Neither = ⊤
IsFoundReplaying replaying replaying_first replay (Broken judged_a judged_b) = ⊤

-- a Start came where a side was judged to be in the grammar
abbrev pub IsJudgedBegun : Judged → State → Type 0
IsJudgedBegun Closed now = ⊤
IsJudgedBegun Bad now = ⊤
IsJudgedBegun (Good standing) now = now.started ≡ true

-- and where a side counts
abbrev pub IsFoundBegun : Verdict → State → Type 0
IsFoundBegun (Counting side standing) now = now.started ≡ true
IsFoundBegun Neither now = ⊤
IsFoundBegun (Broken judged_a judged_b) now = ⊤
