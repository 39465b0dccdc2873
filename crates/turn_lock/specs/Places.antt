-- Places of entries in the history, counted from 0, and how often they stand in lists (our own).
use Rattle.std.specs.Prelude.{ℕ, ◌+◌, ◌<◌, ◌≤◌, ◌==◌, Bool, true, false, List, [], ◌∷◌, ◌++◌}

-- 1 where it is so, else 0
abbrev pub one_if : Bool → ℕ
one_if true = 1
one_if false = 0

-- f of each, added up
abbrev pub total : {A : Type 0} → (A → ℕ) → List A → ℕ
total f [] = 0
total f (x ∷ xs) = f x + total f xs

-- how often x stands in the list
abbrev pub occurrences : ℕ → List ℕ → ℕ
occurrences x [] = 0
occurrences x (y ∷ ys) = one_if (y == x) + occurrences x ys

-- each number stands once at most in the two lists together, and those that stand there are below n
abbrev pub ArePlaces : List ℕ → List ℕ → ℕ → Type 0
ArePlaces mine settled n =
    ((x : ℕ) → occurrences x mine + occurrences x settled ≤ 1)
    × ((x : ℕ) → 0 < occurrences x mine + occurrences x settled → x < n)

-- the second list behind the first where it is so, else the first
abbrev pub behind_if : Bool → List ℕ → List ℕ → List ℕ
behind_if true xs ys = xs ++ ys
behind_if false xs ys = xs
