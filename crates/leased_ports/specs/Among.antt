-- How many runs there are among places in a row (our own).
use Rattle.std.specs.Prelude.{ℕ, ◌+◌, ◌==◌, zero, suc, Bool, false, is_some, List, Option, Some, None, if◌then◌else◌}
use Rattle.pcp_base.specs.declared.leases.End.{End}
use Rattle.port_spans.specs.declared.runs.Run.{Run}
use Rattle.port_spans.specs.Runs.{run_at}

-- whether the run begins at a place, which is one of its own
abbrev pub starts_at : ℕ → Option (Run End) → Bool
starts_at at None = false
starts_at at (Some r) = r.first == at

-- how many runs begin at n places from one on
unfoldable pub starts_among : List (Run End) → ℕ → ℕ → ℕ
starts_among runs at zero = 0
starts_among runs at (suc n) =
    (if starts_at at (run_at runs at) then 1 else 0) + starts_among runs (at + 1) n

-- how many runs have one of n places from one on: the one that has the first, and those that begin
-- behind it
abbrev pub runs_among : List (Run End) → ℕ → ℕ → ℕ
runs_among runs at zero = 0
runs_among runs at (suc n) =
    (if is_some (run_at runs at) then 1 else 0) + starts_among runs (at + 1) n
