-- Opening a house on one thread, and what clients are told then (our own).
use Rattle.std.specs.Prelude.{◌≡◌, ◌⊎◌, ◌<◌, ◌+◌, ⊤, ℕ, List, [], ◌∷◌, ◌++◌, map, flat_map, if◌then◌else◌}
use Rattle.pcp_base.specs.declared.addresses.Address.{Address}
use Rattle.pcp_base.specs.declared.configs.Config.{Config}
use Rattle.pcp_base.specs.declared.configs.External.{External}
use Rattle.pcp_base.specs.declared.datagrams.Datagram.{Datagram}
use Rattle.pcp_base.specs.Tables.{live}
use Rattle.pcp_announce.specs.Updates.{map_update, peer_update}
use Rattle.lease_store.specs.LeaseTerms.{terms_of}
use Rattle.lease_disk.specs.declared.disks.DiskPair.{DiskPair}
use Rattle.lease_disk.specs.Pairs.{PairHasCause}
use Rattle.lease_journal.specs.declared.errors.Found.{Found}
use Rattle.lease_journal.specs.Openings.{LeavesOld}
use Rattle.shard_book.specs.Books.{BookView}
use Rattle.shard_book.specs.Openings.{IsOpened, OpensBook}
use Rattle.lease_house.specs.declared.faults.HouseFault.{HouseFault}
use Rattle.lease_house.specs.declared.faults.HouseFault.TheVariants.{Disk}
use Rattle.lease_house.specs.declared.updates.TheConstants.{CLIENT_PORT}
use Rattle.lease_histories.specs.PlainHouses.{PlainShard, greatest_base}
use Rattle.lease_house.specs.SoloHouses.{HouseView, plain_house, plain_shard}

-- ---- opening

-- a book was opened at m over the pair
pub record OpensOne {D : Type 0} (tells : Type 0) (seen : D → List ℕ) (moment : D → ℕ)
    (left_since : D → ℕ → List ℕ → Type 0) (may_leave : D → List ℕ → Type 0) (faults : D → ℕ)
    (config : Config) (m : ℕ) (x : External) (pair : DiskPair D) (book : BookView D)
    : Type 0 where
  pub found : Found
  pub opened : IsOpened tells seen pair (terms_of x config) m book found
  pub moments : tells →
      OpensBook seen moment left_since may_leave m x.address pair book.journal.pair
  pub later : PairHasCause faults pair book.journal.pair ⊥

-- one for each external address, of the first pairs in order; the others are left
abbrev pub OpensAll : {D : Type 0} → (tells : Type 0) → (D → List ℕ) → (D → ℕ)
    → (D → ℕ → List ℕ → Type 0) → (D → List ℕ → Type 0) → (D → ℕ) → Config → ℕ → List External
    → List (DiskPair D) → List (BookView D) → List (DiskPair D) → Type 0
OpensAll tells seen moment left_since may_leave faults config m [] pairs [] spare = spare ≡ pairs
OpensAll tells seen moment left_since may_leave faults config m (x ∷ xs) (p ∷ ps) (b ∷ bs) spare =
    OpensOne tells seen moment left_since may_leave faults config m x p b
    × OpensAll tells seen moment left_since may_leave faults config m xs ps bs spare
OpensAll tells seen moment left_since may_leave faults config m xs pairs bs spare = ⊥

-- what the journal of each was found to be
abbrev pub AreFound : {D : Type 0} → (tells : Type 0) → (D → List ℕ) → Config → ℕ → List External
    → List (DiskPair D) → List (BookView D) → List Found → Type 0
AreFound tells seen config m [] pairs [] [] = ⊤
AreFound tells seen config m (x ∷ xs) (p ∷ ps) (b ∷ bs) (found ∷ founds) =
    IsOpened tells seen p (terms_of x config) m b found
    × AreFound tells seen config m xs ps bs founds
AreFound tells seen config m xs pairs bs founds = ⊥

-- ---- an opening that is refused

-- the pair was opened or not, and is handed back
pub record HandsBackOne {D : Type 0} (tells : Type 0) (seen : D → List ℕ) (moment : D → ℕ)
    (left_since : D → ℕ → List ℕ → Type 0) (may_leave : D → List ℕ → Type 0) (faults : D → ℕ)
    (m : ℕ) (x : External) (old new : DiskPair D) (fails : Type 0) : Type 0 where
  pub moments : tells → OpensBook seen moment left_since may_leave m x.address old new
      ⊎ LeavesOld moment left_since may_leave old new
  pub cause : PairHasCause faults old new fails

-- All pairs come back in their order. Those past the external addresses had no call, and a disk of
-- the pair at a place is named only where a count of it rose.
abbrev pub HandsBackAll : {D : Type 0} → (tells : Type 0) → (D → List ℕ) → (D → ℕ)
    → (D → ℕ → List ℕ → Type 0) → (D → List ℕ → Type 0) → (D → ℕ) → ℕ → (place : ℕ)
    → HouseFault → List External → (old new : List (DiskPair D)) → Type 0
HandsBackAll tells seen moment left_since may_leave faults m place fault [] old new = new ≡ old
HandsBackAll tells seen moment left_since may_leave faults m k fault (x ∷ xs) (p ∷ ps) (q ∷ qs) =
    HandsBackOne tells seen moment left_since may_leave faults m x p q (fault ≡ Disk k)
    × HandsBackAll tells seen moment left_since may_leave faults m (k + 1) fault xs ps qs
HandsBackAll tells seen moment left_since may_leave faults m place fault xs old new = ⊥

-- the index of a disk that failed is that of an external address
abbrev pub IsOfPlace : ℕ → HouseFault → Type 0
IsOfPlace count fault = (place : ℕ) → fault ≡ Disk place → place < count

-- ---- updates

-- what is sent to a client, by door 0
abbrev pub update_to : Address → List ℕ → Datagram
update_to address octets = record { peer = address; port = CLIENT_PORT; door = 0; octets = octets }

-- those of the leases of an external address that are live at its last record: MAP, then PEER leases
abbrev pub shard_updates : ℕ → PlainShard → List Datagram
shard_updates base shard =
    map (λ l. update_to l.address (map_update l shard.external.address shard.state.last base))
    (live shard.state.table shard.state.last).maps
    ++ map (λ l. update_to l.endpoint.address
    (peer_update l shard.external.address shard.state.last base))
    (live shard.state.table shard.state.last).peers

abbrev pub book_updates : {D : Type 0} → ℕ → BookView D → List Datagram
book_updates base book = if book.renumbered then shard_updates base (plain_shard book) else []

-- those of the external addresses that the opening found renumbered, in order
abbrev pub updates_of : {D : Type 0} → HouseView D → List Datagram
updates_of house = flat_map (book_updates (greatest_base (plain_house house))) house.books
