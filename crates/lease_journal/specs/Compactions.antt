-- A side that takes over from the one that counts (our own).
use Rattle.std.specs.Prelude.{◌≡◌, ℕ, ◌<◌, List, [], ◌∷◌, ◌++◌}
use Rattle.pcp_base.specs.declared.records.Record.{Record}
use Rattle.pcp_base.specs.States.{State}
use Rattle.pcp_base.specs.Apply.{state_of}
use Rattle.journal_sides.specs.declared.formats.Format.TheVariants.{Second}
use Rattle.journal_sides.specs.declared.sides.Side.{Side}
use Rattle.journal_sides.specs.Frames.{records_of}
use Rattle.journal_sides.specs.Shut.{hidden_text}
use Rattle.journal_sides.specs.Sides.{AreBatches}
use Rattle.journal_sides.specs.Writes.{other, side_parity}

-- These octets, behind its gate, let the other side take over from this one: its generation is
-- greater, and its records stand for the same.
pub record TakesOver (side : Side) (older generation : ℕ) (s : State)
    (octets : List ℕ) : Type 0 where
  pub batches : List (List Record)
  pub are : AreBatches Second (side_parity (other side)) generation batches
  pub greater : older < generation
  pub stands : state_of (records_of batches) ≡ s
  pub text : octets ≡ hidden_text generation batches ++ 0 ∷ []
