-- What a watch over all journals writes (our own).
use Rattle.std.specs.Prelude.{◌≡◌, ℕ, ◌-◌, ◌^◌, min, List, ◌++◌, length, flat_map, sum_by, Option, Some, Result, slice_get}
use Rattle.pcp_base.specs.declared.configs.External.{External}
use Rattle.watch_lines.specs.Lines.{ready_line}
use Rattle.watch_readings.specs.declared.readings.Told.{Told}
use Rattle.watch_runs.specs.declared.links.Look.{Look}
use Rattle.watch_runs.specs.declared.links.LookFault.{LookFault}
use Rattle.watch_runs.specs.Looks.{FailsFrom, IsToldFrom}

-- how many leases were told, as far as a number of 64 bits goes
abbrev pub leases_told : List Told → ℕ
leases_told all = min (sum_by (λ told. told.leases) all) (2 ^ 64 - 1)

-- the lines of all in order, and one that says that this was all
abbrev pub watch_text : List Told → List ℕ
watch_text all = flat_map (λ told. told.lines) all ++ ready_line (leases_told all)

-- of each external address what its journal gave is told
pub record AreTold {L : Type 0} (left : L → Option (List (Result Look LookFault))) (most : ℕ)
    (externals : List External) (before now : List L) (all : List Told) : Type 0 where
  pub one_each : length all ≡ length externals
  pub each : (shard : ℕ) (e : External) (old new : L) (told : Told) →
      slice_get externals shard ≡ Some e → slice_get before shard ≡ Some old →
      slice_get now shard ≡ Some new → slice_get all shard ≡ Some told →
      IsToldFrom most e shard (left old) (left new) told

-- the text of what is told of these journals
pub record IsWatched {L : Type 0} (left : L → Option (List (Result Look LookFault))) (most : ℕ)
    (externals : List External) (before now : List L) (text : List ℕ) : Type 0 where
  pub all : List Told
  pub are : AreTold left most externals before now all
  pub spelled : text ≡ watch_text all

-- the journal at this place couldn't be read
pub record FailsAt {L : Type 0} (left : L → Option (List (Result Look LookFault))) (most : ℕ)
    (before now : List L) (shard : ℕ) : Type 0 where
  pub old : L
  pub new : L
  pub was : slice_get before shard ≡ Some old
  pub is : slice_get now shard ≡ Some new
  pub fails : FailsFrom most (left old) (left new)
