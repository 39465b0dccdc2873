-- The numbers that places fall on.
use Rattle.std.proofs.Common.{◌≡◌, ℕ, zero, suc, ◌+◌, ◌*◌, ◌/◌, ◌%◌, ◌^◌, ◌<◌, length, replicate, slice_index, refl, ap, ◌∙◌, arith}
use Rattle.std.proofs.lemmas.List.{length-replicate}
use Rattle.std.specs.Int.{w128, from_be_bytes}
use Rattle.ordered_index.specs.Orders.{Place}
use Rattle.ordered_index.specs.Sieves.{bucket_of, no_places}
use Rattle.ordered_index.specs.declared.places.TheConstants.{MIXER}
use Rattle.ordered_index.specs.declared.sieves.TheConstants.{BUCKETS}

abbrev mixed : (n a b : ℕ) → ℕ
mixed n a b = ((n + a * 2 ^ 64) % 2 ^ 128 * MIXER % 2 ^ 128 / 2 ^ 111 + b) % BUCKETS

pub bucket_of-from : (p : Place) (n a b : ℕ) → n ≡ from_be_bytes w128 p.0 → a ≡ p.1.0 → b ≡ p.1.1 → mixed n a b ≡ bucket_of p
unfolding bucket_of
bucket_of-from p n a b n_is a_is b_is = ap (λ m. mixed m a b) n_is ∙ ap (λ m. mixed (from_be_bytes w128 p.0) m b) a_is ∙ ap (mixed (from_be_bytes w128 p.0) p.1.0) b_is

-- the highest 17 bits of a product
pub top_bits : (n : ℕ) → n % 2 ^ 128 / 2 ^ 111 < 131072
top_bits n = omega arith

rest_below : (n : ℕ) → n % 131072 < 131072
rest_below n = omega arith

none_there : (n i : ℕ) → slice_index (replicate n 0) i ≡ 0
none_there zero i = refl
none_there (suc n) zero = refl
none_there (suc n) (suc i) = none_there n i

pub no_places-none : (i : ℕ) → slice_index no_places i ≡ 0
unfolding no_places
no_places-none i = none_there BUCKETS i

pub no_places-all : length no_places ≡ BUCKETS
unfolding no_places
no_places-all = length-replicate {A = ℕ} BUCKETS 0

pub below_buckets : (p : Place) → bucket_of p < BUCKETS
unfolding bucket_of
below_buckets p = rest_below _

pub bucket_of-below : (p : Place) → bucket_of p < length no_places
bucket_of-below p = let below = below_buckets p in let all = no_places-all in omega (arith, below, all)
