-- Numbers that are marked by bits in words of 64 (our own; for proofs alone).
use Rattle.std.specs.Prelude.{◌≡◌, ◌≢◌, ℕ, ◌/◌, ◌%◌, ◌<◌, ◌≤◌, ◌==◌, Bool, true, false, not, List, length, Option, Some, None, slice_index}
use Rattle.std.specs.Int.{bit_at}
use Rattle.ordered_index.specs.declared.marks.TheConstants.{HIGH_WORDS, LOW_WORDS}

-- whether the bit of a number is set in a word
abbrev pub has_bit : ℕ → ℕ → Bool
has_bit word i = bit_at word i == 1

-- whether a number is marked
abbrev pub is_marked : List ℕ → ℕ → Bool
is_marked words n = has_bit (slice_index words (n / 64)) (n % 64)

-- the mark of one number has this value, each other mark stays, and so does each other word
pub record Marks (old : List ℕ) (n : ℕ) (value : Bool) (new : List ℕ) : Type 0 where
  pub all : length new ≡ length old
  pub here : is_marked new n ≡ value
  pub others : (m : ℕ) → m ≢ n → is_marked new m ≡ is_marked old m
  pub words : (i : ℕ) → i ≢ n / 64 → slice_index new i ≡ slice_index old i

-- this is the last number up to another that passes
pub record IsLastPass (passes : ℕ → Bool) (n last : ℕ) : Type 0 where
  pub up_to : last ≤ n
  pub met : passes last ≡ true
  pub none : (m : ℕ) → last < m → m ≤ n → passes m ≡ false

-- the last number up to this one that passes, None where there is none
abbrev pub IsLastUpTo : (ℕ → Bool) → ℕ → Option ℕ → Type 0
IsLastUpTo passes n None = (m : ℕ) → m ≤ n → passes m ≡ false
IsLastUpTo passes n (Some last) = IsLastPass passes n last

-- the last number up to this one that is marked, None where its word has none
abbrev pub IsLastInWord : List ℕ → ℕ → Option ℕ → Type 0
IsLastInWord words n None = (m : ℕ) → m / 64 ≡ n / 64 → m ≤ n → is_marked words m ≡ false
IsLastInWord words n (Some last) = IsLastPass (is_marked words) n last

-- the high words mark the low words that have a bit set
pub record AreSummed (low high : List ℕ) : Type 0 where
  pub low_all : length low ≡ LOW_WORDS
  pub high_all : length high ≡ HIGH_WORDS
  pub tells : (i : ℕ) → i < LOW_WORDS → is_marked high i ≡ not (slice_index low i == 0)
