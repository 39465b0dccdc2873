use Rattle.std.proofs.Common.{◌≡◌, ℕ, ◌<◌, ◌≤◌, None}
use Rattle.port_spans.specs.Runs.{run_at}
use Rattle.index_rows.proofs.spans.are_free.Given as goal

abbrev pub invariant-loop-place : goal.invariant-loop-place
invariant-loop-place l = (at : ℕ) → l.run.first ≤ at → at < l.place → run_at l.spans at ≡ None
