-- Which ports are picked (our own).
use Rattle.std.specs.Prelude.{◌≡◌, ℕ, ◌+◌, ◌<◌, ◌≤◌, ◌≢◌, Option, Some, None, IsTrue, ◌⊎◌}
use Rattle.pcp_base.specs.declared.addresses.Address.{Address}
use Rattle.port_runs.specs.Ports.{HasParity}
use Rattle.external_pool.specs.PortUses.{PortUses, is_vacant, is_open}
use Rattle.external_pool.specs.declared.asks.Picked.{Picked}

-- the n ports from start on are vacant, and start has the remainder by 2 that is asked
pub record IsVacantRun (uses : PortUses) (n : ℕ) (parity : Option ℕ) (start : ℕ) : Type 0 where
  pub vacant : (port : ℕ) → start ≤ port → port < start + n → IsTrue (is_vacant uses port)
  pub remainder : HasParity parity start

-- n ports are vacant from some start on that has the remainder by 2 that is asked
abbrev pub HasVacantRun : PortUses → Option ℕ → ℕ → Type 0
HasVacantRun uses parity n = (start : ℕ) × IsVacantRun uses n parity start

-- each of the n ports from start on is open to the endpoint that it would be given to, and start
-- has the remainder by 2 that is asked
pub record GoesBack (uses : PortUses) (who : Address) (internal : ℕ) (parity : Option ℕ)
    (start n : ℕ) : Type 0 where
  pub opened : (i : ℕ) → i < n → IsTrue (is_open uses who (internal + i) (start + i))
  pub remainder : HasParity parity start

-- the greatest number of ports, up to room, that are vacant in a row, and the least start of so
-- many
pub record IsLongestRun (uses : PortUses) (parity : Option ℕ) (room : ℕ) (run : Picked)
    : Type 0 where
  pub some : 1 ≤ run.count
  pub within : run.count ≤ room
  pub vacant : IsVacantRun uses run.count parity run.start
  pub least : (start : ℕ) → IsVacantRun uses run.count parity start → run.start ≤ start
  pub greatest : (n : ℕ) → n ≤ room → HasVacantRun uses parity n → n ≤ run.count

-- that run, and None where not even one port is vacant
abbrev pub IsLongest : PortUses → Option ℕ → ℕ → Option Picked → Type 0
IsLongest uses parity room None = (n : ℕ) → 1 ≤ n → n ≤ room → ¬ HasVacantRun uses parity n
IsLongest uses parity room (Some run) = IsLongestRun uses parity room run

-- the suggested ports, where one is suggested and they can go back; else the longest run
pub data IsPick (uses : PortUses) (who : Address) (internal suggested : ℕ) (parity : Option ℕ)
    (room : ℕ) (choice : Option Picked) : Type 0 where
  suggestion : suggested ≢ 0 → GoesBack uses who internal parity suggested room
      → choice ≡ Some (record { start = suggested; count = room })
      → IsPick uses who internal suggested parity room choice
  longest : ((suggested ≡ 0) ⊎ (¬ GoesBack uses who internal parity suggested room))
      → IsLongest uses parity room choice
      → IsPick uses who internal suggested parity room choice
