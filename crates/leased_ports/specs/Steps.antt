-- What one step does to runs, to a pool and to a wheel (our own; for proofs alone).
use Rattle.std.specs.Prelude.{◌≡◌, ℕ, ◌-◌, ◌<◌, ◌≤◌, ◌&&◌, ◌==◌, true, false, List, Option, Some, None, if◌then◌else◌}
use Rattle.std.specs.Ordering.{nat_cmp}
use Rattle.std.specs.FinMap.{FinMap, get}
use Rattle.pcp_base.specs.declared.leases.Protocol.{Protocol}
use Rattle.pcp_base.specs.declared.leases.End.{End}
use Rattle.pcp_base.specs.Tables.{same_protocol}
use Rattle.port_runs.specs.Ports.{is_in_run}
use Rattle.external_pool.specs.declared.uses.Use.{Use}
use Rattle.external_pool.specs.PortUses.{use_along}
use Rattle.external_pool.specs.Holdings.{Holdings, IsWhole, use_of}
use Rattle.port_spans.specs.declared.runs.Run.{Run}
use Rattle.port_spans.specs.Runs.{run_at}
use Rattle.port_spans.specs.Along.{end_along, end_told, spot_of, BeginsAt}
use Rattle.leased_ports.specs.Kept.{IsOn, AreInStep, HaveBegun, end_by}

-- The n ports from one on are used so: that one so, those behind it along it. Nothing else changes.
pub record GivesUses (old : Holdings) (protocol : Protocol) (port n : ℕ) (value : Use)
    (new : Holdings) : Type 0 where
  pub on : (low high most : ℕ) → IsOn old low high most → IsOn new low high most
  pub whole : IsWhole old → IsWhole new
  pub uses : IsWhole old → (other : Protocol) (q : ℕ) → use_of new other q
      ≡ (if same_protocol protocol other && is_in_run port n q then use_along (q - port) value
      else use_of old other q)

-- the ports of a run are used by its value
abbrev pub AreUsedBy : Holdings → Run End → Use → Type 0
AreUsedBy pool r value = (q : ℕ) → is_in_run r.value.external r.count q ≡ true →
    use_of pool r.value.endpoint.protocol q ≡ use_along (q - r.value.external) value

-- One id waits until then, or doesn't wait, and nothing else changes.
abbrev pub Waits : FinMap nat_cmp ℕ → ℕ → Option ℕ → FinMap nat_cmp ℕ → Type 0
Waits old id until new =
    (other : ℕ) → get new other ≡ (if other == id then until else get old other)

-- n spots from one on are of no run any more, and at the others the last ends stay; pool and wheel
-- are those of the runs then
pub record AreFreed (from n : ℕ) (old : List (Run End)) (before : FinMap nat_cmp ℕ)
    (new : List (Run End)) (pool : Holdings) (waits : FinMap nat_cmp ℕ) : Type 0 where
  pub in_step : AreInStep new pool waits
  pub begun : (m : ℕ) → HaveBegun m old before → HaveBegun m new waits
  pub none : (at : ℕ) → is_in_run from n at ≡ true → run_at new at ≡ None
  pub others : (at : ℕ) → is_in_run from n at ≡ false →
      end_told at (run_at new at) ≡ end_told at (run_at old at)

-- of the runs between two spots those before a third one are gone
pub record AreFreeing (from at to : ℕ) (start : List (Run End)) (before : FinMap nat_cmp ℕ)
    (runs : List (Run End)) (pool : Holdings) (waits : FinMap nat_cmp ℕ) : Type 0 where
  pub in_step : AreInStep runs pool waits
  pub begun : (m : ℕ) → HaveBegun m start before → HaveBegun m runs waits
  pub at_begins : BeginsAt at runs
  pub to_begins : BeginsAt to runs
  pub none : (spot : ℕ) → from ≤ spot → spot < at → run_at runs spot ≡ None
  pub below : (spot : ℕ) → spot < from → run_at runs spot ≡ run_at start spot
  pub above : (spot : ℕ) → to ≤ spot → run_at runs spot ≡ run_at start spot

-- The n ports from one on have these last ends, or none, and no other changes; pool and wheel are
-- those of the runs then, by phases that began by m.
pub record AreAssigned (m : ℕ) (old : List (Run End)) (protocol : Protocol) (start n : ℕ)
    (last : ℕ → Option End) (new : List (Run End)) (pool : Holdings) (waits : FinMap nat_cmp ℕ)
    : Type 0 where
  pub in_step : AreInStep new pool waits
  pub begun : HaveBegun m new waits
  pub ends : (other : Protocol) (port : ℕ) → end_by new other port
      ≡ (if same_protocol protocol other && is_in_run start n port then last port
      else end_by old other port)

-- the last end of a port, where n ports have this one and those along it
abbrev pub last_along : End → ℕ → Option End
last_along first port = Some (end_along (port - first.external) first)

abbrev pub no_last : ℕ → Option End
no_last port = None

-- the run of exactly these n ports and endpoints
pub record IsOwnRun (runs : List (Run End)) (first : End) (n : ℕ) (r : Run End) : Type 0 where
  pub there : run_at runs r.first ≡ Some r
  pub at_first : r.first ≡ spot_of first
  pub count : r.count ≡ n
  pub same : r.value ≡ record first { end = r.value.end }
