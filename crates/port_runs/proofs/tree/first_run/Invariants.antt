use Rattle.std.proofs.Common.{◌+◌, ◌-◌, ◌*◌, ◌<◌, ◌≤◌, ◌≡◌}
use Rattle.port_runs.specs.Flags.{flags_of}
use Rattle.port_runs.proofs.Search.{Spot}
use Rattle.port_runs.proofs.tree.first_run.Given as goal

abbrev pub invariant-loop-level : goal.invariant-loop-level
invariant-loop-level g l =
    record {
      spot : Spot (flags_of l.words) l.nodes l.n l.parity (10 - l.level) l.place l.first l.half;
      small : l.level < 10 → l.place < 1024;
      within : l.first + l.half * 2 ≤ 65536;
      cost : l.steps ≡ l.fn.steps + 1 + 2 * l.level;
    }
