-- The external address that a journal names (our own).
use Rattle.std.specs.Prelude.{ℕ, max, Bool, false, List, [], ◌∷◌, if◌then◌else◌, Option, Some, None}
use Rattle.pcp_base.specs.declared.addresses.Address.{Address}
use Rattle.pcp_base.specs.declared.records.Change.TheVariants.{Start, Renumber}
use Rattle.pcp_base.specs.declared.records.Record.{Record}
use Rattle.pcp_base.specs.Apply.{state_of}
use Rattle.pcp_base.specs.States.{State}
use Rattle.pcp_base.specs.Tables.{same_address}

-- whether it is this one
abbrev pub is_named : Address → Option Address → Bool
is_named address None = false
is_named address (Some told) = same_address address told

abbrev pub renumber_at : ℕ → Address → Record
renumber_at m address = record { moment = m; change = Renumber address }

-- what an opening at m appends: a Renumber where the state has no address or another one
abbrev pub renumbering : ℕ → Address → State → List Record
renumbering m address s =
    if is_named address s.address then [] else renumber_at (max m s.last) address ∷ []

-- the state of a journal that begins at m and is told the address
abbrev pub state_anew : ℕ → Address → State
state_anew m address =
    state_of (record { moment = m; change = Start } ∷ renumber_at m address ∷ [])
