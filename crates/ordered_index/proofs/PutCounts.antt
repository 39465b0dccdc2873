-- How many pass a test, after one was put.
use Rattle.std.proofs.Common.{◌≡◌, ℕ, ◌+◌, Bool, true, false, cond, List, [], ◌∷◌, find, count_by, Option, Some, None, arith}
use Rattle.pcp_base.specs.Tables.{put}
use Rattle.ordered_index.proofs.EntryLaws.{tally, count-cons}

-- 1 for what was found and passes
abbrev pub tally_found : {X : Type 0} → (X → Bool) → Option X → ℕ
tally_found p None = 0
tally_found p (Some x) = tally (p x)

put_step : {X : Type 0} (p has : X → Bool) (y x : X) (xs : List X) (b : Bool) →
    count_by p (put has y xs) + tally_found p (find has xs) ≡ count_by p xs + tally (p y) →
    count_by p (cond b (y ∷ xs) (x ∷ put has y xs)) + tally_found p (cond b (Some x) (find has xs)) ≡ count_by p (x ∷ xs) + tally (p y)
put_step p has y x xs true rest =
    let new = count-cons p y xs in let old = count-cons p x xs in omega (arith, new, old)
put_step p has y x xs false rest =
    let new = count-cons p x (put has y xs) in let old = count-cons p x xs in omega (arith, new, old, rest)

-- what is put comes in place of what was found
pub count-put : {X : Type 0} (p has : X → Bool) (y : X) (xs : List X) → count_by p (put has y xs) + tally_found p (find has xs) ≡ count_by p xs + tally (p y)
count-put p has y [] = let new = count-cons p y [] in omega (arith, new)
count-put p has y (x ∷ xs) = put_step p has y x xs (has x) (count-put p has y xs)
