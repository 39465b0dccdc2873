-- Runs of last ends whose rest is over, and when it is (our own).
use Rattle.std.specs.Prelude.{◌≡◌, ℕ, ◌+◌, ◌<◌, ◌≤◌, ◌^◌, ◌==◌, ◌&&◌, nat_le, Bool, true, false, List, Option, Some, None, IfSome, if◌then◌else◌}
use Rattle.pcp_base.specs.declared.leases.TheConstants.{REST_SECONDS}
use Rattle.pcp_base.specs.declared.leases.End.{End}
use Rattle.expiry_wheel.specs.declared.TheConstants.{NEVER}
use Rattle.expiry_wheel.specs.Blocks.{AreLeasts}
use Rattle.port_spans.specs.declared.runs.TheConstants.{PLACES}
use Rattle.port_spans.specs.declared.runs.Run.{Run}
use Rattle.port_spans.specs.Runs.{run_at, AreRuns}
use Rattle.leased_ports.specs.declared.timed_ends.TheConstants.{BLOCKS}

-- when the ports of a run are free again, which begins at a spot; NEVER where none does
abbrev pub free_of : ℕ → Option (Run End) → ℕ
free_of at None = NEVER
free_of at (Some r) = if r.first == at then r.value.end + REST_SECONDS else NEVER

abbrev pub free_at : List (Run End) → ℕ → ℕ
free_at runs at = free_of at (run_at runs at)

-- a run of spots that there are, whose end is a moment
abbrev pub IsNear : Run End → Type 0
IsNear r = (r.first + r.count ≤ PLACES) × (r.value.end < 2 ^ 41)

abbrev pub AreNear : List (Run End) → Type 0
AreNear runs = (at : ℕ) → IfSome (run_at runs at) IsNear

-- of each block of spots the least of when a run that begins there is free again
pub record AreTimed (runs : List (Run End)) (frees : List ℕ) : Type 0 where
  pub apart : AreRuns runs
  pub near : AreNear runs
  pub leasts : AreLeasts BLOCKS (free_at runs) frees

-- whether the rest of a run is over at m
abbrev pub is_over : ℕ → Option (Run End) → Bool
is_over m None = false
is_over m (Some r) = nat_le (r.value.end + REST_SECONDS) m

-- whether a spot is behind one or that one, and of such a run
abbrev pub is_over_from : ℕ → ℕ → List (Run End) → ℕ → Bool
is_over_from from m runs at = nat_le from at && is_over m (run_at runs at)

-- the first number that passes a test; None where none does
abbrev pub IsFirst : (ℕ → Bool) → Option ℕ → Type 0
IsFirst test None = (n : ℕ) → test n ≡ false
IsFirst test (Some n) = (test n ≡ true) × ((other : ℕ) → test other ≡ true → n ≤ other)
