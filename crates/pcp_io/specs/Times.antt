-- The times that a clock gives, where it tells them (our own). All are in milliseconds.
use Rattle.std.specs.Prelude.{◌≡◌, ℕ, ◌-◌, ◌≤◌, List, [], ◌∷◌, length, Option, Some, None, unwrap_or}
use Rattle.std.specs.List.{slice_get}

pub record Times : Type 0 where
  -- those that it will give
  pub coming : List ℕ
  -- what it gives after them, for ever
  pub rest : ℕ

abbrev pub next_in : List ℕ → ℕ → ℕ
next_in [] rest = rest
next_in (t ∷ ts) rest = t

abbrev pub behind_next : List ℕ → List ℕ
behind_next [] = []
behind_next (t ∷ ts) = ts

-- the time that is given next
abbrev pub time_now : Times → ℕ
time_now t = next_in t.coming t.rest

-- after it was given
abbrev pub times_later : Times → Times
times_later t = record { coming = behind_next t.coming; rest = t.rest }

-- it is the next, where the clock tells
abbrev pub IsTimeNow : Option Times → Option Times → ℕ → Type 0
IsTimeNow None now time = now ≡ None
IsTimeNow (Some t) now time = (time ≡ time_now t) × (now ≡ Some (times_later t))

-- the last of these times; 0 where there is none
abbrev pub last_time : List ℕ → ℕ
last_time times = unwrap_or (slice_get times (length times - 1)) 0

-- a clock that repeats the last of its times
abbrev pub stepping : List ℕ → Times
stepping times = record { coming = times; rest = last_time times }

-- none of the times is below the one before it, nor is the one that it gives for ever
abbrev pub NeverFall : List ℕ → ℕ → Type 0
NeverFall [] rest = Unit {0}
NeverFall (t ∷ ts) rest = (t ≤ next_in ts rest) × NeverFall ts rest

-- a clock in memory whose times never fall
abbrev pub NeverFalls : Times → Type 0
NeverFalls t = NeverFall t.coming t.rest
