-- A book that goes behind a turn, and one that is taken out (our own).
use Rattle.std.specs.Prelude.{◌≡◌, ◌≤◌, ℕ, List, [], ◌++◌, Some, None}
use Rattle.std.specs.List.{slice_get}
use mathlib.Core.List.{IsPrefix}
use Rattle.pcp_base.specs.declared.configs.Config.{Config}
use Rattle.pcp_base.specs.declared.datagrams.Entry.{Entry}
use Rattle.pcp_base.specs.Configs.{IsConfig}
use Rattle.pcp_base.specs.States.{State}
use Rattle.lease_disk.specs.declared.disks.DiskPair.{DiskPair}
use Rattle.lease_disk.specs.Pairs.{HoldsNow, PairLeavesOnly}
use Rattle.journal_sides.specs.Journals.{StandsFor as StandsForState, StandsForWithOrWithout}
use Rattle.lease_store.specs.LeaseTerms.{terms_of}
use Rattle.lane_index.specs.Lanes.{LaneKnowledge, WriterKnowledge, lane_of, opening_state}
use Rattle.lane_index.specs.Lanes.{writer_of}
use Rattle.shard_book.specs.Books.{BookView, IsBook}
use Rattle.lease_histories.specs.Legal.{IsLegal, records_of, state_after}
use Rattle.lease_histories.specs.Promises.{KeepsPromises}
use Rattle.turned_shards.specs.declared.marks.Mark.{Mark}
use Rattle.turned_shards.specs.declared.openings.Opening.{Opening}
use Rattle.turned_shards.specs.declared.passes.HousePass.{HousePass}
use Rattle.turned_shards.specs.declared.shards.Shard.{Shard}
use Rattle.turned_shards.specs.Shards.{StandsFor, served_by}

module _ {D : Type 0} where
  abbrev pub opening_of : Config → ℕ → BookView D → LaneKnowledge → Opening D
  opening_of config place book lane =
      record { config = config; place = place; book = book; lane = lane }

  -- what a lane of the leases of an opened book begins with
  abbrev pub first_leases : BookView D → State
  first_leases book =
      opening_state book.state.table.maps book.state.table.peers book.state.last

  -- the lane of this writer, which knows no record
  abbrev pub first_lane : WriterKnowledge → BookView D → LaneKnowledge
  first_lane writer book = lane_of writer.index (first_leases book) []

  -- the writer of this lane, which has published nothing
  abbrev pub first_writer : LaneKnowledge → BookView D → WriterKnowledge
  first_writer lane book = writer_of lane.index (first_leases book) [] []

  -- the book was just opened for the external address at this place
  pub record MayBegin (tells : Type 0) (seen : D → List ℕ) (may_leave : D → List ℕ → Type 0)
      (config : Config) (place : ℕ) (book : BookView D) : Type 0 where
    pub is : IsBook tells seen may_leave book
    pub config_is : IsConfig config
    pub there : slice_get config.externals place ≡ Some book.terms.external
    pub terms : book.terms ≡ terms_of book.terms.external config
    pub last : book.last ≡ book.state.last
    pub settled : book.fault ≡ None

  -- The book that was opened stood behind a turn, and nothing was noted there. It has its state,
  -- each image of its pair stands for that, now and at each moment since, and no count of the pair
  -- has fallen.
  pub record StandsStill (tells : Type 0) (moment : D → ℕ) (left_since : D → ℕ → List ℕ → Type 0)
      (may_leave : D → List ℕ → Type 0) (faults : D → ℕ) (opened book : BookView D) : Type 0 where
    pub state : book.state ≡ opened.state
    pub images : tells → HoldsNow may_leave (StandsForState opened.state) book.journal.pair
    pub moments : tells → PairLeavesOnly moment left_since may_leave opened.journal.pair
        book.journal.pair (StandsForState opened.state)
    pub later_a : faults opened.journal.pair.a ≤ faults book.journal.pair.a
    pub later_b : faults opened.journal.pair.b ≤ faults book.journal.pair.b

  -- The pass has seen the whole history, for which the shard stood whose pair this is, and has
  -- noted no more. The history keeps what is promised. A crash leaves the state to which it leads,
  -- or that with all entries in doubt.
  pub record EndsOne (tells : Type 0) (seen : D → List ℕ) (moment : D → ℕ)
      (left_since : D → ℕ → List ℕ → Type 0) (may_leave : D → List ℕ → Type 0)
      (faults : D → ℕ) (o : Opening D) (old new : HousePass D) (pair : DiskPair D) : Type 0 where
    pub others : List Entry
    pub more : List (Mark D)
    pub shard : new.shard ≡ old.shard
    pub epoch : new.epoch ≡ old.epoch
    pub knows : new.history.seen ≡ old.history.seen ++ others
    pub marks : new.history.marks ≡ old.history.marks ++ more
    pub mine : new.history.mine ≡ old.history.mine
    pub settled : new.history.settled ≡ old.history.settled
    pub kept : Shard D
    pub stands : StandsFor tells seen moment left_since may_leave faults o kept new.history.seen
        new.history.marks
    pub pair_is : pair ≡ kept.book.journal.pair
    pub legal : IsLegal (served_by o) o.book.state new.history.seen
    pub promises : KeepsPromises (served_by o) o.book.state new.history.seen
    pub images : tells → HoldsNow may_leave (StandsForWithOrWithout
        (state_after o.book.state new.history.seen) (records_of kept.doubt)) pair

  -- The lane began with the leases of the opening state, and knows first records of the history.
  pub record KnowsFirst (o : Opening D) (history : List Entry) (lane : LaneKnowledge) : Type 0 where
    pub index : lane.index ≡ o.lane.index
    pub opening : lane.opening ≡ first_leases o.book
    pub known : IsPrefix lane.known (records_of history)
