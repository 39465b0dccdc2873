-- What an opening finds of sides that a crash has left (our own).
use Rattle.std.specs.Prelude.{◌≡◌, ◌⊎◌, ℕ, List, Contains, Some, slice_get}
use Rattle.pcp_base.specs.declared.configs.Config.{Config}
use Rattle.pcp_base.specs.declared.configs.External.{External}
use Rattle.pcp_base.specs.Apply.{apply_all}
use Rattle.pcp_base.specs.States.{State}
use Rattle.lease_disk.specs.declared.disks.DiskPair.{DiskPair}
use Rattle.journal_sides.specs.Journals.{IsBlank, IsDamaged}
use Rattle.shard_book.specs.Addresses.{renumbering, state_anew}
use Rattle.shard_book.specs.Books.{BookView}
use Rattle.lease_histories.specs.PlainHouses.{PlainHouse, PlainShard}
use Rattle.lease_house.specs.HouseImages.{StandsInOneOf}
use Rattle.lease_house.specs.SoloOpenings.{OpensOne}

-- the state that the external address has in one of these houses, and then a Renumber at m where
-- that names no address or another one
pub record IsFoundIn (place : ℕ) (houses : List PlainHouse) (m : ℕ) (x : External) (now : State)
    : Type 0 where
  pub house : PlainHouse
  pub shard : PlainShard
  pub among : Contains houses house
  pub there : slice_get house.shards place ≡ Some shard
  pub now_is : now ≡ apply_all shard.state (renumbering m x.address shard.state)

-- Where the sides stand for the state in one of these houses, a book opens with it.
abbrev pub CrashesAreFound : (D : Type 0) → (tells : Type 0) → (D → List ℕ) → (D → ℕ)
    → (D → ℕ → List ℕ → Type 0) → (D → List ℕ → Type 0) → (D → ℕ) → Type 0
CrashesAreFound D tells seen moment left_since may_leave faults =
    (place : ℕ) (houses : List PlainHouse) (config : Config) (m : ℕ) (x : External)
    (pair : DiskPair D) (book : BookView D) → tells →
    StandsInOneOf place houses (seen pair.a) (seen pair.b) →
    OpensOne tells seen moment left_since may_leave faults config m x pair book →
    IsFoundIn place houses m x book.state

-- Where they are blank or damaged, it opens with a Start at m, and then the address.
abbrev pub OthersBeginAnew : (D : Type 0) → (tells : Type 0) → (D → List ℕ) → (D → ℕ)
    → (D → ℕ → List ℕ → Type 0) → (D → List ℕ → Type 0) → (D → ℕ) → Type 0
OthersBeginAnew D tells seen moment left_since may_leave faults =
    (config : Config) (m : ℕ) (x : External) (pair : DiskPair D) (book : BookView D) → tells →
    IsBlank (seen pair.a) (seen pair.b) ⊎ IsDamaged (seen pair.a) (seen pair.b) →
    OpensOne tells seen moment left_since may_leave faults config m x pair book →
    book.state ≡ state_anew m x.address
