-- The beginning of a house of many threads (our own).
use Rattle.std.specs.Prelude.{◌≡◌, ◌⊎◌, ℕ, ◌+◌, ◌-◌, ◌^◌, List, [], ◌∷◌, ◌++◌, ⊤, map, flat_map}
use Rattle.std.specs.List.{AllByRecursion, AllZip, sum_by}
use Rattle.pcp_base.specs.declared.configs.Config.{Config}
use Rattle.lease_disk.specs.declared.disks.DiskPair.{DiskPair}
use Rattle.lease_journal.specs.declared.errors.Found.{Found}
use Rattle.lane_index.specs.Lanes.{LaneKnowledge, lane_of}
use Rattle.turn_lock.specs.Passes.{TurnName, new_pass}
use Rattle.shard_book.specs.Books.{BookView}
use Rattle.lease_histories.specs.HouseHistories.{greatest}
use Rattle.lease_house.specs.declared.faults.HouseFault.{HouseFault}
use Rattle.lease_house.specs.declared.faults.HouseFault.TheVariants.{Memory}
use Rattle.lease_house.specs.SoloOpenings.{AreFound, HandsBackAll, OpensAll, book_updates}
use Rattle.shared_house.specs.declared.beginning.Begun.{Begun}
use Rattle.turned_shards.specs.declared.openings.Opening.{Opening}
use Rattle.turned_shards.specs.declared.passes.HousePass.{HousePass}
use Rattle.shared_house.specs.Findings.{is_fresh, update_places}
use Rattle.shared_house.specs.Seats.{Knows}
use Rattle.turned_shards.specs.Turnings.{StandsStill, first_leases, opening_of}

module _ {D : Type 0} where
  -- the greatest base that these books were opened with
  abbrev pub first_base : List (BookView D) → ℕ
  first_base books = greatest (map (λ b. b.state.base) books)

  -- What the external address of a book begins with: its turn was told this, its one pass has seen
  -- nothing, and its lane knows nothing.
  pub record BeginsOne (config : Config) (place : ℕ) (book : BookView D)
      (turn : TurnName (Opening D)) (pass : HousePass D) (lane : LaneKnowledge) : Type 0 where
    pub key : turn.key ≡ opening_of config place book lane
    pub shard : pass.shard ≡ place
    pub history : pass.history ≡ new_pass turn.id (2 ^ 64 - 1) [] []
    pub leases : lane ≡ lane_of lane.index (first_leases book) []

  -- one for each book, in order; the first one is that of this place
  abbrev pub BeginAll : Config → (place : ℕ) → List (BookView D) → List (TurnName (Opening D))
      → List (HousePass D) → List LaneKnowledge → Type 0
  BeginAll config place [] [] [] [] = ⊤
  BeginAll config place (b ∷ bs) (t ∷ ts) (p ∷ ps) (l ∷ ls) =
      BeginsOne config place b t p l × BeginAll config (place + 1) bs ts ps ls
  BeginAll config place bs ts ps ls = ⊥

  -- What a house of opened books begins with. Its passes raised no more than the first moment of
  -- the word and were told that, and have the whole right to raise it.
  pub record BeginsWith (config : Config) (books : List (BookView D)) (founds : List Found)
      (begun : Begun D) : Type 0 where
    pub each : BeginAll config 0 books begun.house.turns begun.passes.items begun.lanes.items
    pub epochs : AllByRecursion
        (λ p. Knows begun.house.word (first_base books) (first_base books) p.epoch)
        begun.passes.items
    pub shares : sum_by (λ p. p.epoch.share) begun.passes.items ≡ 2 ^ 64 - 1
    pub fresh : begun.fresh ≡ is_fresh founds books
    pub updates : begun.updates.items ≡ flat_map (book_updates (first_base books)) books
    pub update_shards : begun.update_shards.items ≡ update_places (first_base books) 0 books

  -- A house was opened at m over the pairs, and begins with what its journals were found to be.
  pub record Begins (tells : Type 0) (seen : D → List ℕ) (moment : D → ℕ)
      (left_since : D → ℕ → List ℕ → Type 0) (may_leave : D → List ℕ → Type 0) (faults : D → ℕ)
      (config : Config) (m : ℕ) (disks : List (DiskPair D)) (begun : Begun D) : Type 0 where
    pub books : List (BookView D)
    pub founds : List Found
    pub opened : OpensAll tells seen moment left_since may_leave faults config m config.externals
        disks books begun.house.spare
    pub found : AreFound tells seen config m config.externals disks books founds
    pub begins : BeginsWith config books founds begun

  -- A book comes back as it was opened, or it stood behind a turn.
  abbrev pub ComesBack : Type 0 → (D → ℕ) → (D → ℕ → List ℕ → Type 0) → (D → List ℕ → Type 0)
      → (D → ℕ) → (opened book : BookView D) → Type 0
  ComesBack tells moment left_since may_leave faults opened book =
      (book ≡ opened) ⊎ StandsStill tells moment left_since may_leave faults opened book

  -- The pairs of opened books come back in their order, before the spare ones.
  pub record ComeBack (tells : Type 0) (moment : D → ℕ) (left_since : D → ℕ → List ℕ → Type 0)
      (may_leave : D → List ℕ → Type 0) (faults : D → ℕ) (books : List (BookView D))
      (spare pairs : List (DiskPair D)) : Type 0 where
    pub left : List (BookView D)
    pub each : AllZip (ComesBack tells moment left_since may_leave faults) books left
    pub back : pairs ≡ map (λ b. b.journal.pair) left ++ spare

  -- All journals were opened, and then no memory was found for a turn, or for what else a house
  -- has.
  pub record OpensInVain (tells : Type 0) (seen : D → List ℕ) (moment : D → ℕ)
      (left_since : D → ℕ → List ℕ → Type 0) (may_leave : D → List ℕ → Type 0) (faults : D → ℕ)
      (config : Config) (m : ℕ) (old new : List (DiskPair D)) : Type 0 where
    pub books : List (BookView D)
    pub spare : List (DiskPair D)
    pub opened : OpensAll tells seen moment left_since may_leave faults config m config.externals
        old books spare
    pub back : ComeBack tells moment left_since may_leave faults books spare new

  -- All pairs come back in their order: a journal wasn't opened, or no memory was found before the
  -- first one was or after the last one.
  abbrev pub RefusesBegin : Type 0 → (D → List ℕ) → (D → ℕ) → (D → ℕ → List ℕ → Type 0)
      → (D → List ℕ → Type 0) → (D → ℕ) → Config → ℕ → HouseFault → (old new : List (DiskPair D))
      → Type 0
  RefusesBegin tells seen moment left_since may_leave faults config m fault old new =
      HandsBackAll tells seen moment left_since may_leave faults m 0 fault config.externals old new
      ⊎ ((fault ≡ Memory)
      × OpensInVain tells seen moment left_since may_leave faults config m old new)
