-- The formats of a side (our own). Octet 5 of a side tells which one it has.
use Rattle.std.specs.Prelude.{ℕ, ◌+◌, ◌^◌, ◌<◌, List, ⊤}
use Rattle.pcp_base.specs.declared.records.Record.{Record}
use Rattle.pcp_base.specs.States.{State, empty_state}
use Rattle.pcp_base.specs.Apply.{apply, apply_first, apply_all, apply_all_first}
use Rattle.pcp_base.specs.Fits.{Fits, FitsFirst, AllFit, AllFitFirst}
use Rattle.journal_sides.specs.declared.formats.Format.{Format}
use Rattle.journal_sides.specs.declared.formats.Format.TheVariants.{First, Second}

abbrev pub format_octet : Format → ℕ
format_octet First = 1
format_octet Second = 2

-- in the first format there is always a next generation
abbrev pub HasNext : Format → ℕ → Type 0
HasNext First generation = generation + 1 < 2 ^ 64
HasNext Second generation = ⊤

-- each record fits after those before it
abbrev pub AllFitBy : Format → State → List Record → Type 0
AllFitBy First s rs = AllFitFirst s rs
AllFitBy Second s rs = AllFit s rs

-- the records one after the other
abbrev pub apply_all_by : Format → State → List Record → State
apply_all_by First s rs = apply_all_first s rs
apply_all_by Second s rs = apply_all s rs

-- what the records of a side stand for
abbrev pub state_by : Format → List Record → State
state_by format rs = apply_all_by format empty_state rs

-- the record fits by the rules of this format
abbrev pub FitsBy : Format → State → Record → Type 0
FitsBy First s r = FitsFirst s r
FitsBy Second s r = Fits s r

abbrev pub apply_by : Format → State → Record → State
apply_by First s r = apply_first s r
apply_by Second s r = apply s r

-- the replay takes records of this format
abbrev pub IsReplaying : {R : Type 0} → Format → (R → Type 0) → (R → Type 0) → R → Type 0
IsReplaying First replaying replaying_first replay = replaying_first replay
IsReplaying Second replaying replaying_first replay = replaying replay
