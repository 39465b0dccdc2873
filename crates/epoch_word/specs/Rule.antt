-- The rule of the word, what a seat knows of it, and what each step tells (our own).
use Rattle.std.specs.Prelude.{◌≡◌, ℕ, ◌+◌, ◌-◌, ◌*◌, ◌/◌, ◌<◌, ◌≤◌, ◌^◌, nat_lt, if◌then◌else◌, max, List, [], ◌∷◌, length, slice_index}
use mathlib.Core.Option.{some}
use lib.ListN.{get_elem?}
use Rattle.atomic_table.specs.Table.{State, Me, Step}
use Rattle.atomic_table.specs.Seated.{TableId}
use Rattle.epoch_word.specs.declared.TheConstants.{EPOCH, FIRST_SHARE, NEW_SHARE}
use Rattle.epoch_word.specs.declared.views.WordView.{WordView}

-- a seat, as contracts see it: its word, the greatest moment that was raised with it, the greatest
-- that it was told, how often it asked the word, and its share of the right to raise, never 0
pub record SeatKnowledge : Type 0 where
  pub word : TableId
  pub raised : ℕ
  pub heard : ℕ
  pub asked : ℕ
  pub share : ℕ

abbrev pub seat_knowledge : TableId → (raised heard asked share : ℕ) → SeatKnowledge
seat_knowledge word raised heard asked share =
    record { word = word; raised = raised; heard = heard; asked = asked; share = share }

-- how much of this share a seat gets that is split off: NEW_SHARE, but at most a half
abbrev pub new_share : ℕ → ℕ
new_share n = if nat_lt (2 * NEW_SHARE) n then NEW_SHARE else n / 2

-- A seat was split in two, which know the same and have its share together. The new one has asked
-- nothing yet.
pub record AreSplit (old kept new : SeatKnowledge) : Type 0 where
  pub kept_is : kept ≡ record old { share = old.share - new_share old.share }
  pub new_is : new ≡ record old { asked = 0; share = new_share old.share }
  pub whole : kept.share + new.share ≡ old.share

abbrev pub word_view : (raised heard asked share : ℕ) → WordView
word_view raised heard asked share =
    record { raised = raised; heard = heard; asked = asked; share = share }

-- the first view counts as having raised the first moment, and has the whole share
abbrev pub first_word_view : ℕ → WordView
first_word_view first = word_view first first 0 FIRST_SHARE

-- it has given a part of its share away
abbrev pub keeper_word_view : WordView → WordView
keeper_word_view v = word_view v.raised v.heard v.asked (v.share - new_share v.share)

-- the new view, to which that part was given
abbrev pub newcomer_word_view : WordView → WordView
newcomer_word_view v = word_view v.raised v.heard 0 (new_share v.share)

abbrev pub joined_word_view : WordView → WordView → WordView
joined_word_view v w =
    word_view (max v.raised w.raised) (max v.heard w.heard) (v.asked + w.asked) (v.share + w.share)

-- the view that was taken in has nothing left
abbrev pub spent_word_view : WordView
spent_word_view = word_view 0 0 0 0

-- the shares of these views together
abbrev pub shares : List WordView → ℕ
shares [] = 0
shares (v ∷ vs) = v.share + shares vs

-- the view has neither raised nor been told a greater moment
pub record IsBelow (word : ℕ) (v : WordView) : Type 0 where
  pub raised : v.raised ≤ word
  pub heard : v.heard ≤ word

-- it is a moment, and the view knows of no greater one
pub record IsTold (moment : ℕ) (v : WordView) : Type 0 where
  pub small : moment < 2 ^ 40
  pub below : IsBelow moment v

-- The rule: the word is a moment that some view with a share has raised, no view knows of a greater
-- one, it is no less than the first, and all shares together are what the first view had.
pub record HasGreatest {S : Type 0} (first : ℕ) (s : State S WordView) : Type 0 where
  pub wide : length s.words ≡ 1
  pub small : slice_index s.words EPOCH < 2 ^ 40
  pub some_view : (j : ℕ) × (v : WordView) × (get_elem? s.views j ≡ some v)
      × (v.raised ≡ slice_index s.words EPOCH) × (0 < v.share)
  pub each : (j : ℕ) (v : WordView) → get_elem? s.views j ≡ some v
      → IsBelow (slice_index s.words EPOCH) v
  pub low : first ≤ slice_index s.words EPOCH
  pub whole : shares s.views ≡ FIRST_SHARE

module _ {S : Type 0} where
  -- the moment was raised
  abbrev pub TellsRaise : Step S → Me S WordView → ℕ → Me S WordView → Type 0
  TellsRaise st old found new =
      new ≡ (record old.0 { raised = max old.0.raised st.first }, old.1)

  -- the moment found is told, to one that asked once more
  abbrev pub TellsMoment : Step S → Me S WordView → ℕ → Me S WordView → Type 0
  TellsMoment st old found new =
      (new ≡ (record old.0 { heard = found; asked = old.0.asked + 1 }, old.1)) × IsTold found old.0

  -- the share is no more than all there is
  abbrev pub TellsShare : Step S → Me S WordView → ℕ → Me S WordView → Type 0
  TellsShare st old found new = (new ≡ old) × (old.0.share ≤ FIRST_SHARE)
