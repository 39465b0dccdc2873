-- What the opening of a house found (our own).
use Rattle.std.specs.Prelude.{ℕ, ◌+◌, ◌||◌, Bool, true, false, List, [], ◌∷◌, ◌++◌, length}
use Rattle.std.specs.Prelude.{replicate}
use Rattle.std.specs.List.{list_any}
use Rattle.lease_journal.specs.declared.errors.Found.{Found}
use Rattle.lease_journal.specs.declared.errors.Found.TheVariants.{Recovered, Blank, Damaged}
use Rattle.shard_book.specs.Books.{BookView}
use Rattle.lease_house.specs.SoloOpenings.{book_updates}

-- whether a journal had no records, and was started
abbrev pub is_anew : Found → Bool
is_anew Recovered = false
is_anew Blank = true
is_anew Damaged = true

module _ {D : Type 0} where
  -- some journal was started, or told another address
  abbrev pub is_fresh : List Found → List (BookView D) → Bool
  is_fresh founds books = list_any is_anew founds || list_any (λ b. b.renumbered) books

  -- the index of the external address of each update; the first book is that of this place
  abbrev pub update_places : (base place : ℕ) → List (BookView D) → List ℕ
  update_places base place [] = []
  update_places base place (b ∷ bs) =
      replicate (length (book_updates base b)) place ++ update_places base (place + 1) bs
