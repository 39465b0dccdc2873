-- The first octets of an open side (our own).
use Rattle.std.specs.Prelude.{◌≡◌, ℕ, ◌%◌, ◌^◌, ◌<◌, List}
use Rattle.journal_sides.specs.declared.formats.Format.{Format}
use Rattle.journal_sides.specs.Formats.{HasNext}
use Rattle.journal_sides.specs.Sides.{head_text}

-- they tell this format and this generation, which a side of this parity may have
pub record IsHead (parity : ℕ) (octets : List ℕ) (format : Format) (generation : ℕ) : Type 0 where
  pub width : generation < 2 ^ 64
  pub next : HasNext format generation
  pub of_side : generation % 2 ≡ parity
  pub text : octets ≡ head_text format generation
