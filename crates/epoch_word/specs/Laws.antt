-- What the rule of the word says in the words of moments (our own).
use Rattle.std.specs.Prelude.{◌≡◌, ℕ, ◌<◌, ◌≤◌, max, List, [], ◌∷◌, slice_index}
use mathlib.Core.Option.{some}
use lib.ListN.{get_elem?}
use Rattle.atomic_table.specs.Table.{State}
use Rattle.epoch_word.specs.declared.TheConstants.{EPOCH, FIRST_SHARE}
use Rattle.epoch_word.specs.declared.views.WordView.{WordView}
use Rattle.epoch_word.specs.Rule.{HasGreatest, shares}

-- the greatest of the first moment and all that views have raised
abbrev pub greatest_raised : ℕ → List WordView → ℕ
greatest_raised first [] = first
greatest_raised first (v ∷ vs) = max v.raised (greatest_raised first vs)

abbrev pub WordIsGreatest : Type 0
WordIsGreatest =
    (first : ℕ) (s : State ℕ WordView) → HasGreatest first s
    → slice_index s.words EPOCH ≡ greatest_raised first s.views

abbrev pub NoneHeardMore : Type 0
NoneHeardMore =
    (first : ℕ) (s : State ℕ WordView) → HasGreatest first s
    → (j : ℕ) (v : WordView) → get_elem? s.views j ≡ some v → v.heard ≤ slice_index s.words EPOCH

-- the word was raised by a view with a share, or is the first moment, which the first view raised
abbrev pub WordWasRaised : Type 0
WordWasRaised =
    (first : ℕ) (s : State ℕ WordView) → HasGreatest first s
    → (j : ℕ) × (v : WordView) × (get_elem? s.views j ≡ some v)
    × (v.raised ≡ slice_index s.words EPOCH) × (0 < v.share)

-- all shares together are what the first view had
abbrev pub SharesAreWhole : Type 0
SharesAreWhole =
    (first : ℕ) (s : State ℕ WordView) → HasGreatest first s → shares s.views ≡ FIRST_SHARE
