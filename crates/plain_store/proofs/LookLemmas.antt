-- What is found in a range of numbers.
use Rattle.std.proofs.Common.{◌≡◌, ℕ, suc, ◌+◌, Bool, false, find, refl}
use Rattle.std.specs.List.{range_with_len}

pub find_later : (test : ℕ → Bool) (a n m : ℕ) → n ≡ suc m → test a ≡ false → find test (range_with_len a n) ≡ find test (range_with_len (a + 1) m)
find_later test a n m e fails = rw (e, fails) refl
