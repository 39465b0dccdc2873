-- The form of a journal that is looked at in memory (our own).
use Rattle.std.specs.Prelude.{List, Result}
use Rattle.watch_runs.specs.declared.links.Look.{Look}
use Rattle.watch_runs.specs.declared.links.LookFault.{LookFault}

pub record LooksInMemory : Type 0 where
  -- a look or a fault each, from here on
  pub left : List (Result Look LookFault)

-- a link that will give these
abbrev pub new_looks : List (Result Look LookFault) → LooksInMemory
new_looks looks = record { left = looks }
