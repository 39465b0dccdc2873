-- Batches that are appended to a side (our own).
use Rattle.std.specs.Prelude.{◌<◌, List, length}
use Rattle.std.specs.List.{AllByRecursion}
use Rattle.pcp_base.specs.declared.records.Record.{Record}
use Rattle.journal_sides.specs.declared.formats.Format.{Format}
use Rattle.journal_sides.specs.Formats.{AllFitBy, state_by}
use Rattle.journal_sides.specs.Frames.{IsBatch, records_of}

-- a batch that may follow these
pub record MayFollow (format : Format) (batches : List (List Record))
    (batch : List Record) : Type 0 where
  pub is : IsBatch batch
  pub fit : AllFitBy format (state_by format (records_of batches)) batch

-- batches that may follow these
pub record AllMayFollow (format : Format) (batches more : List (List Record)) : Type 0 where
  pub some : 0 < length more
  pub each : AllByRecursion IsBatch more
  pub fit : AllFitBy format (state_by format (records_of batches)) (records_of more)
