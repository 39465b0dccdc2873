-- What holds of an opened house, and of one that wasn't opened (our own).
use Rattle.std.specs.Prelude.{◌≡◌, ℕ, List, drop, length, map, Some, None}
use Rattle.std.specs.List.{AllByRecursion, slice_get}
use Rattle.pcp_base.specs.declared.configs.Config.{Config}
use Rattle.pcp_base.specs.declared.configs.External.{External}
use Rattle.pcp_base.specs.States.{State}
use Rattle.lease_disk.specs.declared.disks.DiskPair.{DiskPair}
use Rattle.shard_book.specs.Books.{BookView}
use Rattle.lease_histories.specs.Laws.{AreOpenings}
use Rattle.lease_histories.specs.Legal.{IsOpening}
use Rattle.lease_histories.specs.PlainHouses.{house_begun}
use Rattle.lease_house.specs.declared.faults.HouseFault.{HouseFault}
use Rattle.lease_house.specs.declared.faults.HouseFault.TheVariants.{Disk}
use Rattle.lease_house.specs.SoloHouses.{HouseView, IsHouse, plain_house}
use Rattle.lease_house.specs.SoloOpenings.{HandsBackAll, HandsBackOne, OpensAll, OpensOne}

-- the states that were found or made, by the index of the external address
abbrev pub openings_of : {D : Type 0} → HouseView D → List State
openings_of house = map (λ b. b.state) house.books

-- a house of these states, in which nothing is in doubt
pub record IsBegun {D : Type 0} (tells : Type 0) (seen : D → List ℕ) (moment : D → ℕ)
    (left_since : D → ℕ → List ℕ → Type 0) (may_leave : D → List ℕ → Type 0) (faults : D → ℕ)
    (config : Config) (m : ℕ) (disks : List (DiskPair D)) (house : HouseView D) : Type 0 where
  pub plain : plain_house house ≡ house_begun config (openings_of house)
  pub openings : AreOpenings config (openings_of house)
  -- a history may begin at each
  pub each : (place : ℕ) (x : External) (opening : State) →
      slice_get config.externals place ≡ Some x →
      slice_get (openings_of house) place ≡ Some opening →
      IsOpening (record { config = config; place = place; external = x }) opening
  pub settled : AllByRecursion (λ b. b.fault ≡ None) house.books
  -- the pair of an external address is the one with its index
  pub opened : (place : ℕ) (x : External) (pair : DiskPair D) (book : BookView D) →
      slice_get config.externals place ≡ Some x → slice_get disks place ≡ Some pair →
      slice_get house.books place ≡ Some book →
      OpensOne tells seen moment left_since may_leave faults config m x pair book
  pub spare : house.spare ≡ drop (length config.externals) disks

abbrev pub OpenedHousesBegin : (D : Type 0) → (tells : Type 0) → (D → List ℕ) → (D → ℕ)
    → (D → ℕ → List ℕ → Type 0) → (D → List ℕ → Type 0) → (D → ℕ) → Type 0
OpenedHousesBegin D tells seen moment left_since may_leave faults =
    (config : Config) (m : ℕ) (disks : List (DiskPair D)) (house : HouseView D) →
    house.config ≡ config → IsHouse tells seen may_leave house →
    OpensAll tells seen moment left_since may_leave faults config m config.externals disks
    house.books house.spare →
    IsBegun tells seen moment left_since may_leave faults config m disks house

-- each pair stands where it stood
pub record HandsBackEach {D : Type 0} (tells : Type 0) (seen : D → List ℕ) (moment : D → ℕ)
    (left_since : D → ℕ → List ℕ → Type 0) (may_leave : D → List ℕ → Type 0) (faults : D → ℕ)
    (m : ℕ) (fault : HouseFault) (xs : List External) (old new : List (DiskPair D))
    : Type 0 where
  pub count : length new ≡ length old
  pub each : (place : ℕ) (x : External) (p q : DiskPair D) →
      slice_get xs place ≡ Some x → slice_get old place ≡ Some p → slice_get new place ≡ Some q →
      HandsBackOne tells seen moment left_since may_leave faults m x p q (fault ≡ Disk place)
  pub spare : drop (length xs) new ≡ drop (length xs) old

abbrev pub PairsAreHandedBack : (D : Type 0) → (tells : Type 0) → (D → List ℕ) → (D → ℕ)
    → (D → ℕ → List ℕ → Type 0) → (D → List ℕ → Type 0) → (D → ℕ) → Type 0
PairsAreHandedBack D tells seen moment left_since may_leave faults =
    (m : ℕ) (fault : HouseFault) (xs : List External) (old new : List (DiskPair D)) →
    HandsBackAll tells seen moment left_since may_leave faults m 0 fault xs old new →
    HandsBackEach tells seen moment left_since may_leave faults m fault xs old new
