-- The seats of the epoch word with which a house begins (our own).
use Rattle.std.specs.Prelude.{◌≡◌, ℕ, List, length}
use Rattle.std.specs.List.{AllByRecursion, sum_by}
use Rattle.atomic_table.specs.Seated.{TableId}
use Rattle.epoch_word.specs.Rule.{SeatKnowledge}

-- it is of this word, and has raised and was told this
pub record Knows (word : TableId) (raised heard : ℕ) (seat : SeatKnowledge) : Type 0 where
  pub word_is : seat.word ≡ word
  pub raised_is : seat.raised ≡ raised
  pub heard_is : seat.heard ≡ heard

-- so many, each of which knows as much as this one, and which have its share together
pub record AreSeats (count : ℕ) (first : SeatKnowledge) (seats : List SeatKnowledge)
    : Type 0 where
  pub count_is : length seats ≡ count
  pub each : AllByRecursion (Knows first.word first.raised first.heard) seats
  pub shares : sum_by (λ s. s.share) seats ≡ first.share
