-- A call on one of the books of a house (our own; for private contracts).
use Rattle.std.specs.Prelude.{◌≡◌, ℕ, max, List, slice_set, Some, None}
use Rattle.std.specs.List.{slice_get}
use Rattle.pcp_base.specs.declared.asks.Ask.{Ask}
use Rattle.lease_core.specs.Decide.{decide}
use Rattle.lease_disk.specs.Pairs.{PairHasCause}
use Rattle.lease_store.specs.LeaseTerms.{terms_of}
use Rattle.shard_book.specs.declared.batches.DatedAnswer.{DatedAnswer}
use Rattle.shard_book.specs.Batches.{answer_at, dated_of}
use Rattle.shard_book.specs.Books.{BookView, IsBook}
use Rattle.shard_book.specs.Keepings.{Keeps}
use Rattle.lease_histories.specs.PlainHouses.{greatest_base}
use Rattle.lease_house.specs.SoloCalls.{SettlesAt, ask_records}
use Rattle.lease_house.specs.SoloHouses.{ChangesBook, HouseView, plain_house}

-- only the item at this place changes
pub record ChangesAt {X : Type 0} (place : ℕ) (old new : List X) (How : X → X → Type 0)
    : Type 0 where
  pub before : X
  pub after : X
  pub was : slice_get old place ≡ Some before
  pub is : new ≡ slice_set old place after
  pub how : How before after

-- no call on the book at this place was refused since it was settled
abbrev pub IsSettledIn : {D : Type 0} → ℕ → List (BookView D) → Type 0
IsSettledIn place books = (b : BookView _) → slice_get books place ≡ Some b → b.fault ≡ None

-- after a call the book is one still, on the same terms
pub record StaysBook {D : Type 0} (tells : Type 0) (seen : D → List ℕ)
    (may_leave : D → List ℕ → Type 0) (faults : D → ℕ) (fails : Type 0) (b c : BookView D)
    : Type 0 where
  pub book : IsBook tells seen may_leave c
  pub terms : c.terms ≡ b.terms
  pub cause : PairHasCause faults b.journal.pair c.journal.pair fails

-- what the book answers to an ask at `now`, with this base
abbrev pub ask_answer : {D : Type 0} → (now base : ℕ) → Ask → BookView D → DatedAnswer
ask_answer now base ask book = dated_of
    (answer_at (max now book.last) base (decide book.terms book.state (max now book.last) ask))

-- It is answered, after its book was settled. The base told is the greatest of all books'.
pub record AnswersAsk {D : Type 0} (tells : Type 0) (moment : D → ℕ)
    (left_since : D → ℕ → List ℕ → Type 0) (may_leave : D → List ℕ → Type 0) (now place : ℕ)
    (ask : Ask) (old new : HouseView D) (answer : DatedAnswer) : Type 0 where
  pub mid : HouseView D
  pub settles : SettlesAt tells moment left_since may_leave now place old mid
  pub book : BookView D
  pub kept_book : BookView D
  pub on_terms : terms_of book.terms.external mid.config ≡ book.terms
  pub told : answer ≡ ask_answer now (greatest_base (plain_house mid)) ask book
  pub keeps : Keeps tells moment left_since may_leave (max now book.last) (ask_records now ask book)
      book kept_book
  pub changes : ChangesBook place book kept_book mid new
