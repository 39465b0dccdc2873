-- The sides of a journal (our own). A side is judged by all its octets.
use Rattle.std.specs.Prelude.{◌≡◌, ◌≢◌, ◌⊎◌, ℕ, ◌%◌, ◌^◌, ◌<◌, List, ◌∷◌, ◌++◌, length, get_or}
use Rattle.std.specs.List.{AllByRecursion}
use Rattle.std.specs.Int.{to_be_bytes, w64}
use Rattle.pcp_base.specs.declared.records.Record.{Record}
use Rattle.pcp_base.specs.States.{empty_state}
use Rattle.journal_sides.specs.declared.layout.TheConstants.{SHORTEST_SIDE}
use Rattle.journal_sides.specs.Formats.{format_octet, HasNext, AllFitBy}
use Rattle.journal_sides.specs.declared.formats.Format.{Format}
use Rattle.journal_sides.specs.Frames.{IsBatch, frames_text, records_of}

-- the side gate, open; `PCPJ`; the format; the generation
abbrev pub head_text : Format → ℕ → List ℕ
head_text format generation =
    1 ∷ 80 ∷ 67 ∷ 80 ∷ 74 ∷ format_octet format ∷ to_be_bytes w64 generation

-- an open side up to the gate that ends its walk
abbrev pub side_text : Format → ℕ → List (List Record) → List ℕ
side_text format generation batches = head_text format generation ++ frames_text batches

-- What an open side in the grammar may hold. Side a has even generations (parity 0), side b odd
-- ones (1).
pub record AreBatches (format : Format) (parity generation : ℕ)
    (batches : List (List Record)) : Type 0 where
  pub width : generation < 2 ^ 64
  pub next : HasNext format generation
  pub of_side : generation % 2 ≡ parity
  -- the first frame is open
  pub some : 0 < length batches
  pub each : AllByRecursion IsBatch batches
  pub fit : AllFitBy format empty_state (records_of batches)

-- An open side in the grammar: its text, a gate that isn't open, and whatever stands behind that.
pub record IsOpenSide (format : Format) (parity : ℕ) (octets : List ℕ) (generation : ℕ)
    (batches : List (List Record)) : Type 0 where
  pub contents : AreBatches format parity generation batches
  pub gate : ℕ
  pub behind : List ℕ
  pub closed : gate ≢ 1
  pub text : octets ≡ side_text format generation batches ++ gate ∷ behind

-- too few octets, or a side gate that isn't open
abbrev pub IsClosedSide : List ℕ → Type 0
IsClosedSide octets = (length octets < SHORTEST_SIDE) ⊎ (get_or octets 0 0 ≢ 1)

-- open, and not in the grammar of either format
abbrev pub IsBadSide : ℕ → List ℕ → Type 0
IsBadSide parity octets =
    ¬ (IsClosedSide octets)
    × ((format : Format) (generation : ℕ) (batches : List (List Record)) →
    ¬ (IsOpenSide format parity octets generation batches))
