-- The random words that come from outside, where they are told (our own).
use Rattle.std.specs.Prelude.{◌≡◌, ℕ, ◌-◌, List, [], ◌∷◌, length, Option, Some, None, unwrap_or}
use Rattle.std.specs.List.{slice_get}

pub record RandomWords : Type 0 where
  -- those that are to come
  pub coming : List ℕ
  -- what comes after them, for ever
  pub rest : ℕ

abbrev pub next_in : List ℕ → ℕ → ℕ
next_in [] rest = rest
next_in (w ∷ ws) rest = w

abbrev pub behind_next : List ℕ → List ℕ
behind_next [] = []
behind_next (w ∷ ws) = ws

-- the word that comes next
abbrev pub next_word : RandomWords → ℕ
next_word w = next_in w.coming w.rest

-- after it came
abbrev pub words_later : RandomWords → RandomWords
words_later w = record { coming = behind_next w.coming; rest = w.rest }

-- it is the next, where they are told
abbrev pub IsNextWord : Option RandomWords → Option RandomWords → ℕ → Type 0
IsNextWord None now word = now ≡ None
IsNextWord (Some w) now word = (word ≡ next_word w) × (now ≡ Some (words_later w))

-- the last of these words; 0 where there is none
abbrev pub last_word : List ℕ → ℕ
last_word words = unwrap_or (slice_get words (length words - 1)) 0

-- a list of words of which the last is repeated
abbrev pub listing : List ℕ → RandomWords
listing words = record { coming = words; rest = last_word words }
