-- What a crash may leave of a house over time (our own): images of each pair of disks, by themselves.
use Rattle.std.specs.Prelude.{◌≡◌, ℕ, List, length, slice_get, Contains, Some}
use Rattle.lease_disk.specs.Pairs.{PairLeavesOnly}
use Rattle.journal_sides.specs.Journals.{StandsFor}
use Rattle.shard_book.specs.Books.{BookView}
use Rattle.lease_histories.specs.PlainHouses.{PlainHouse, PlainShard}
use Rattle.lease_house.specs.SoloHouses.{HouseView}

-- sides that hold x and y stand for the state that the external address has in one of these houses
pub record StandsInOneOf (place : ℕ) (houses : List PlainHouse) (x y : List ℕ) : Type 0 where
  pub house : PlainHouse
  pub shard : PlainShard
  pub among : Contains houses house
  pub there : slice_get house.shards place ≡ Some shard
  pub stands : StandsFor shard.state x y

-- From the one to the other each two images of each pair stand for its state in one of these houses.
-- Pairs past those of the external addresses had no call.
pub record HouseLeavesOnly {D : Type 0} (tells : Type 0) (moment : D → ℕ)
    (left_since : D → ℕ → List ℕ → Type 0) (may_leave : D → List ℕ → Type 0)
    (old new : HouseView D) (houses : List PlainHouse) : Type 0 where
  pub count : length new.books ≡ length old.books
  pub spare : new.spare ≡ old.spare
  pub each : tells → (place : ℕ) (b c : BookView D) →
      slice_get old.books place ≡ Some b → slice_get new.books place ≡ Some c →
      PairLeavesOnly moment left_since may_leave b.journal.pair c.journal.pair
      (StandsInOneOf place houses)
