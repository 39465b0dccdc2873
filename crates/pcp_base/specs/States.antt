-- What a list of records stands for (our own).
use Rattle.std.specs.Prelude.{ℕ, Bool, false, List, [], Option, None}
use Rattle.pcp_base.specs.declared.addresses.Address.{Address}
use Rattle.pcp_base.specs.declared.leases.End.{End}
use Rattle.pcp_base.specs.Tables.{Table, empty_table}

pub record State : Type 0 where
  pub table : Table
  -- by which ports rest, in the order of protocol number and port
  pub ends : List End
  -- the moment of the last Start, Lose, or Renumber that found another address; 0 before a Start
  pub base : ℕ
  -- the external address, where a Renumber told it
  pub address : Option Address
  -- the moment of the last record, 0 before a Start
  pub last : ℕ
  -- whether a Start came
  pub started : Bool

-- no record came yet
abbrev pub empty_state : State
empty_state = record { table = empty_table; ends = []; base = 0; address = None; last = 0; started = false }
