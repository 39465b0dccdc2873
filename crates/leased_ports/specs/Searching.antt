-- What may change a choice of ports while runs are due (our own; for proofs alone).
use Rattle.std.specs.Prelude.{ℕ, ◌+◌, nat_lt, Option, Some, None, if◌then◌else◌}
use Rattle.std.specs.Ordering.{nat_cmp}
use Rattle.std.specs.FinMap.{FinMap, get}
use Rattle.pcp_base.specs.declared.leases.Protocol.{Protocol}
use Rattle.external_pool.specs.declared.asks.Picked.{Picked}
use Rattle.port_spans.specs.Along.{spot}
use Rattle.leased_ports.specs.Counts.{count_below}
use Rattle.leased_ports.specs.Falling.{is_due}

-- at how many ports of a protocol below n a run begins that is due by m
abbrev pub due_among : ℕ → FinMap nat_cmp ℕ → Protocol → ℕ → ℕ
due_among m waits protocol n = count_below (λ port. is_due m (get waits (spot protocol port))) n

-- the port behind a choice, where it has as many ports as there is room for; else the one behind
-- the range
abbrev pub search_end : ℕ → ℕ → Option Picked → ℕ
search_end high room None = high + 1
search_end high room (Some run) =
    if nat_lt run.count room then high + 1 else run.start + run.count
