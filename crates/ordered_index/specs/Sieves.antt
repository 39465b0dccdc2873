-- How many places fall on each of some buckets (our own; for proofs alone).
use Rattle.std.specs.Prelude.{◌≡◌, ℕ, ◌+◌, ◌-◌, ◌*◌, ◌/◌, ◌%◌, ◌^◌, ◌<◌, ◌==◌, min, nat_lt, not, if◌then◌else◌, List, length, replicate, slice_index, slice_set}
use Rattle.std.specs.Int.{w128, from_be_bytes}
use Rattle.ordered_index.specs.Marks.{is_marked}
use Rattle.ordered_index.specs.Orders.{Place}
use Rattle.ordered_index.specs.declared.places.TheConstants.{MIXER}
use Rattle.ordered_index.specs.declared.sieves.TheConstants.{BUCKETS}

-- the number that the octets of the address spell, with the protocol's beside it, is multiplied
-- modulo 2 ^ 128; its highest 17 bits and the port are added
unfoldable pub bucket_of : Place → ℕ
bucket_of p =
    ((from_be_bytes w128 p.0 + p.1.0 * 2 ^ 64) % 2 ^ 128 * MIXER % 2 ^ 128 / 2 ^ 111 + p.1.1)
    % BUCKETS

-- one place more or less, where 255 stands for any number
abbrev pub one_more : ℕ → ℕ
one_more n = min (n + 1) 255

abbrev pub one_less : ℕ → ℕ
one_less n = if nat_lt n 255 then n - 1 else n

-- no place falls on any bucket
unfoldable pub no_places : List ℕ
no_places = replicate BUCKETS 0

-- one place more, or one less, falls on a bucket
abbrev pub with_place : ℕ → List ℕ → List ℕ
with_place bucket counts = slice_set counts bucket (one_more (slice_index counts bucket))

abbrev pub without_place : ℕ → List ℕ → List ℕ
without_place bucket counts = slice_set counts bucket (one_less (slice_index counts bucket))

-- the marks are those of the buckets that places fall on
pub record AreFilled (counts marks : List ℕ) : Type 0 where
  pub all : length counts ≡ BUCKETS
  pub tells : (b : ℕ) → b < BUCKETS → is_marked marks b ≡ not (slice_index counts b == 0)
