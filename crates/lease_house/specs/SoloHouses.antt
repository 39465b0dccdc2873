-- A house on one thread as contracts see it (our own): a book for each external address.
use Rattle.std.specs.Prelude.{◌≡◌, ℕ, List, map, slice_set, Some, None}
use Rattle.std.specs.List.{AllByRecursion, slice_get}
use Rattle.std.specs.Option.{option_map_or}
use Rattle.pcp_base.specs.declared.configs.Config.{Config}
use Rattle.pcp_base.specs.Configs.{IsConfig}
use Rattle.lease_store.specs.LeaseTerms.{terms_of}
use Rattle.lease_disk.specs.declared.disks.DiskPair.{DiskPair}
use Rattle.lease_disk.specs.Pairs.{PairHasCause}
use Rattle.shard_book.specs.Books.{BookView, IsBook}
use Rattle.lease_histories.specs.PlainHouses.{PlainShard, PlainHouse}

pub record HouseView (D : Type 0) : Type 0 where
  pub config : Config
  -- by the index of the external address
  pub books : List (BookView D)
  -- pairs past those of the external addresses
  pub spare : List (DiskPair D)

-- What holds of each house: its books are those of the external addresses of its configuration.
pub record IsHouse {D : Type 0} (tells : Type 0) (seen : D → List ℕ)
    (may_leave : D → List ℕ → Type 0) (house : HouseView D) : Type 0 where
  pub config : IsConfig house.config
  pub terms : map (λ b. b.terms) house.books
      ≡ map (λ x. terms_of x house.config) house.config.externals
  pub books : AllByRecursion (IsBook tells seen may_leave) house.books

-- the plain state of a book; what is in doubt doesn't count
abbrev pub plain_shard : {D : Type 0} → BookView D → PlainShard
plain_shard book = record {
  external = book.terms.external;
  state = book.state;
  last = book.last;
}

abbrev pub plain_house : {D : Type 0} → HouseView D → PlainHouse
plain_house house = record { config = house.config; shards = map plain_shard house.books }

-- the moment of the last entry or record of the external address at this place
abbrev pub last_in : PlainHouse → ℕ → ℕ
last_in house place = option_map_or (λ s. s.last) (slice_get house.shards place) 0

-- the house with this book at this place
abbrev pub with_book : {D : Type 0} → HouseView D → ℕ → BookView D → HouseView D
with_book house place book = record house { books = slice_set house.books place book }

-- no call on the external address was refused since its book was settled
abbrev pub IsSettledAt : {D : Type 0} → ℕ → HouseView D → Type 0
IsSettledAt place house = (b : BookView _) → slice_get house.books place ≡ Some b → b.fault ≡ None

-- only the book at this place changes, from the one to the other
pub record ChangesBook {D : Type 0} (place : ℕ) (b c : BookView D) (old new : HouseView D)
    : Type 0 where
  pub there : slice_get old.books place ≡ Some b
  pub new_is : new ≡ with_book old place c

-- no count of faults of the book's pair has fallen, and where the call failed one has risen
abbrev pub HaveCauses : {D : Type 0} → (D → ℕ) → HouseView D → HouseView D → (ℕ → Type 0) → Type 0
HaveCauses faults old new fails = (place : ℕ) (b c : BookView _) →
    slice_get old.books place ≡ Some b → slice_get new.books place ≡ Some c →
    PairHasCause faults b.journal.pair c.journal.pair (fails place)
