-- The calls of an object in memory: how many came, which are to fail, and how many did (our own).
use Rattle.std.specs.Prelude.{ℕ, ◌+◌, ◌-◌, ◌^◌, ◌≤◌, ◌⊎◌, min, List, [], ◌∷◌, ◌++◌, nat_lt, if◌then◌else◌, Contains, Option, Some, None, IsSomeAnd}

pub record CallLog : Type 0 where
  -- how many calls were made, which is the number of the next one
  pub made : ℕ
  -- the numbers of the calls that are to fail
  pub failing : List ℕ
  -- the number from which on all calls are to fail, if any
  pub stop : Option ℕ
  -- how many calls failed
  pub faults : ℕ
  -- how many calls found no memory
  pub starved : ℕ

-- no call came, and none is to fail
abbrev pub no_calls : CallLog
no_calls = record { made = 0; failing = []; stop = None; faults = 0; starved = 0 }

-- one more, in a count of 64 bits, which stands still at its end
abbrev pub one_more : ℕ → ℕ
one_more count = if nat_lt count (2 ^ 64 - 1) then count + 1 else count

-- the next call is to fail
abbrev pub IsNamed : CallLog → Type 0
IsNamed log = Contains log.failing log.made ⊎ IsSomeAnd log.stop (λ call. call ≤ log.made)

-- the call of this number is to fail too
abbrev pub with_failing : CallLog → ℕ → CallLog
with_failing log call = record log { failing = log.failing ++ call ∷ [] }

-- the earlier of two stops
abbrev pub earlier_stop : Option ℕ → ℕ → ℕ
earlier_stop None call = call
earlier_stop (Some stop) call = min stop call

-- the call of this number and all later ones are to fail too
abbrev pub with_stop : CallLog → ℕ → CallLog
with_stop log call = record log { stop = Some (earlier_stop log.stop call) }

-- after a call
abbrev pub with_call : CallLog → CallLog
with_call log = record log { made = one_more log.made }

-- after a call that failed
abbrev pub with_fault : CallLog → CallLog
with_fault log = record log { made = one_more log.made; faults = one_more log.faults }

-- after a call that failed because it found no memory
abbrev pub with_starved : CallLog → CallLog
with_starved log = record (with_fault log) { starved = one_more log.starved }
