-- A house of many threads as contracts see it, and what its calls do (our own).
use Rattle.std.specs.Prelude.{◌≡◌, ◌⊎◌, ◌≤◌, ◌<◌, ◌+◌, ℕ, max, false, List, [], ◌∷◌, ◌++◌, length}
use Rattle.std.specs.Prelude.{map, Some}
use Rattle.std.specs.List.{range_with_len, slice_get}
use Rattle.pcp_base.specs.declared.configs.Config.{Config}
use Rattle.pcp_base.specs.Configs.{IsConfig}
use Rattle.pcp_base.specs.declared.datagrams.Datagram.{Datagram}
use Rattle.pcp_base.specs.declared.datagrams.Entry.{Entry}
use mathlib.Core.List.{IsPrefix}
use Rattle.atomic_table.specs.Seated.{TableId}
use Rattle.lease_house.specs.declared.faults.HouseFault.{HouseFault}
use Rattle.lease_house.specs.SoloCalls.{fault_at as fault_of}
use Rattle.lease_disk.specs.declared.disks.DiskPair.{DiskPair}
use Rattle.lease_store.specs.LeaseTerms.{terms_of}
use Rattle.lease_store.specs.Lookups.{lease_count}
use Rattle.journal_sides.specs.declared.errors.JournalFault.{JournalFault}
use Rattle.journal_sides.specs.declared.errors.JournalFault.TheVariants.{Disk, Memory}
use Rattle.lane_index.specs.Lanes.{ToldRecords}
use Rattle.lease_histories.specs.Legal.{IsLegal, base_after, moment_after, state_after}
use Rattle.turn_lock.specs.Lengths.{longer}
use Rattle.turn_lock.specs.Passes.{PassKnowledge, SplitsPass, TurnName}
use Rattle.epoch_word.specs.Rule.{AreSplit, SeatKnowledge}
use Rattle.turn_lock.specs.Marks.{marks_beside}
use Rattle.turned_shards.specs.declared.marks.Mark.{Mark}
use Rattle.turned_shards.specs.declared.openings.Opening.{Opening}
use Rattle.turned_shards.specs.declared.passes.HousePass.{HousePass}
use Rattle.turned_shards.specs.declared.shards.Shard.{Shard}
use Rattle.turned_shards.specs.BatchEntries.{asked_in, entries_along, fault_at, loss_at, reply_in}
use Rattle.turned_shards.specs.Crashes.{IsInDoubt, doubts_in}
use Rattle.turned_shards.specs.Publishing.{told_of}
use Rattle.turned_shards.specs.ShardCalls.{SettlesShard}
use Rattle.turned_shards.specs.Shards.{StandsFor, served_by}

pub record HouseView (D : Type 0) : Type 0 where
  pub config : Config
  -- by the index of the external address: its turn, and what its history began with
  pub turns : List (TurnName (Opening D))
  pub word : TableId
  -- pairs past those of the external addresses
  pub spare : List (DiskPair D)

-- what holds of each house: there is a turn for each external address, and its history began with
-- the configuration and with its index
pub record IsHouse {D : Type 0} (house : HouseView D) : Type 0 where
  pub config : IsConfig house.config
  pub count : length house.turns ≡ length house.config.externals
  pub keys : (place : ℕ) (turn : TurnName (Opening D)) → slice_get house.turns place ≡ Some turn →
      (turn.key.config ≡ house.config) × (turn.key.place ≡ place)

module _ {D : Type 0} where
  -- with this the history of the external address at this place began
  abbrev pub BeginsAt : HouseView D → ℕ → Opening D → Type 0
  BeginsAt house place o =
      (turn : TurnName (Opening D)) × (slice_get house.turns place ≡ Some turn) × (turn.key ≡ o)

  -- the pass is of the turn of its external address, which is at home, and of the epoch word
  pub record IsPassOf (house : HouseView D) (pass : HousePass D) : Type 0 where
    pub turn : TurnName (Opening D)
    pub there : slice_get house.turns pass.shard ≡ Some turn
    pub same : pass.history.turn ≡ turn.id
    pub home : pass.history.out ≡ false
    pub word : pass.epoch.word ≡ house.word

-- Behind what the pass had seen stand entries of others, then those of this call's settling, and
-- then the call's own, all of one mark. Of these the places join what it has settled, and what is its own.
pub record Notes {D : Type 0} (old new : PassKnowledge Entry (Mark D))
    (others settling own : List Entry) : Type 0 where
  pub turn : new.turn ≡ old.turn
  pub home : new.out ≡ false
  pub room : new.room ≡ old.room
  pub seen : new.seen ≡ ((old.seen ++ others) ++ settling) ++ own
  pub more : List (Mark D)
  pub mark : Mark D
  pub marks : new.marks ≡ (old.marks ++ more) ++ marks_beside mark own
  pub settled : new.settled
      ≡ old.settled ++ range_with_len (length (old.seen ++ others)) (length settling)
  pub mine : new.mine
      ≡ old.mine ++ range_with_len (length ((old.seen ++ others) ++ settling)) (length own)

-- The seat has raised this much, and was told no less than before.
pub record Hears (raised : ℕ) (old new : SeatKnowledge) : Type 0 where
  pub same : new ≡ record old { raised = raised; heard = new.heard; asked = new.asked }
  pub heard : old.heard ≤ new.heard

-- the word was asked in this call, once
abbrev pub AsksTheWord : (old new : SeatKnowledge) → Type 0
AsksTheWord old new = new.asked ≡ old.asked + 1

-- so it was, or it wasn't asked, and told nothing
abbrev pub MayAskTheWord : (old new : SeatKnowledge) → Type 0
MayAskTheWord old new =
    AsksTheWord old new ⊎ ((new.asked ≡ old.asked) × (new.heard ≡ old.heard))

-- The word was asked in this call, once, and told this moment: no less than it told before, and
-- than what was raised.
pub record HearsHouse (old new : SeatKnowledge) (told : ℕ) : Type 0 where
  pub new_is : new ≡ record old { heard = told; asked = old.asked + 1 }
  pub heard : old.heard ≤ told
  pub raised : old.raised ≤ told

module _ {D : Type 0} (o : Opening D) where
  -- the entries of a batch behind a history, where the word told this base
  abbrev pub batch_behind : List Entry → ℕ → ℕ → List Datagram → List Entry
  batch_behind log now heard batch =
      entries_along (terms_of (served_by o).external o.config) (state_after o.book.state log)
      (max now (moment_after o.book.state log)) (max heard (base_after o.book.state log))
      (asked_in o.config batch)

  abbrev pub loss_behind : List Entry → ℕ → ℕ → List Entry
  loss_behind log now heard = loss_at (max now (moment_after o.book.state log))
      (max heard (base_after o.book.state log)) ∷ []

  -- The last entry that the pass has seen is a fault. What was in doubt at it is what the call asked for,
  -- decided behind the history before; or, where the journal couldn't be read, nothing, or what was in
  -- doubt there.
  pub record MarksDoubt (wanted : List Entry → List Entry) (pass : HousePass D) : Type 0 where
    pub before : List Entry
    pub fault : Entry
    pub seen : pass.history.seen ≡ before ++ fault ∷ []
    pub earlier : List (Mark D)
    pub one_each : length earlier ≡ length before
    pub mark : Mark D
    pub marks : pass.history.marks ≡ earlier ++ mark ∷ []
    pub doubt : (mark.doubt ≡ wanted before) ⊎ ((mark.doubt ≡ [])
        ⊎ IsInDoubt (served_by o) o.book.state (doubts_in earlier) before mark.doubt)

  -- what is raised by whoever has seen this history
  abbrev pub raised_behind : List Entry → ℕ → ℕ
  raised_behind log raised = max raised (state_after o.book.state log).base

  -- and by whoever then lost the leases
  abbrev pub raised_by_loss : ℕ → List Entry → ℕ → ℕ
  raised_by_loss now log raised =
      max (raised_behind log raised) (max now (moment_after o.book.state log))

  module _ (tells : Type 0) (seen : D → List ℕ) (moment : D → ℕ)
      (left_since : D → ℕ → List ℕ → Type 0) (may_leave : D → List ℕ → Type 0)
      (faults : D → ℕ) where
    -- With these entries the shard behind the turn, which stood for the history, was settled: all
    -- that were in doubt or none, or those with which its journal begins anew.
    pub record IsSettling (now : ℕ) (log settling : List Entry) : Type 0 where
      pub shard : Shard D
      pub settled : Shard D
      pub marks : List (Mark D)
      pub stands : StandsFor tells seen moment left_since may_leave faults o shard log marks
      pub settles : SettlesShard tells moment left_since may_leave now shard settled
      pub added : settling ≡ settled.added

    -- so it was, or the settling was refused
    abbrev pub MaySettle : ℕ → List Entry → List Entry → Type 0
    MaySettle now log settling = (settling ≡ []) ⊎ IsSettling now log settling

  -- the history before the call's own entries
  abbrev pub before_own : HousePass D → (others settling : List Entry) → List Entry
  before_own old others settling = (old.history.seen ++ others) ++ settling

  -- what a call added: the history is legal with it
  pub record AddsTo (Settles : List Entry → List Entry → Type 0) (old new : HousePass D)
      (own : List Entry → List Entry) : Type 0 where
    pub others : List Entry
    pub settling : List Entry
    pub settles : Settles (old.history.seen ++ others) settling
    pub notes : Notes old.history new.history others settling
        (own (before_own old others settling))
    pub legal : IsLegal (served_by o) o.book.state new.history.seen

  module _ (tells : Type 0) (seen : D → List ℕ) (moment : D → ℕ)
      (left_since : D → ℕ → List ℕ → Type 0) (may_leave : D → List ℕ → Type 0)
      (faults : D → ℕ) where
    -- The batch is answered, with the base that the word told in this call, after that of the
    -- external address was raised.
    pub record ServesHouse (now : ℕ) (batch : List Datagram) (old new : HousePass D)
        (replies : List Datagram) (lane : ToldRecords) : Type 0 where
      pub adds : AddsTo (IsSettling tells seen moment left_since may_leave faults now) old new
          (λ log. batch_behind log now new.epoch.heard batch)
      pub told : replies ≡ map reply_in
          (batch_behind (before_own old adds.others adds.settling) now new.epoch.heard batch)
      pub hears :
          Hears (raised_behind (before_own old adds.others adds.settling) old.epoch.raised)
          old.epoch new.epoch
      pub asks : AsksTheWord old.epoch new.epoch
      pub raised : new.epoch.raised ≤ new.epoch.heard
      pub published : lane ≡ told_of o new.history.seen

    -- A disk failed: a fault is the call's own entry, and its mark tells what is in doubt. Or memory was
    -- wanting: nothing is, or what was asked, by what the word told in this call, with what that raises.
    pub record RefusesWith (now : ℕ) (own : List Entry → List Entry)
        (raised : List Entry → ℕ → ℕ) (old new : HousePass D) : Type 0 where
      pub adds : AddsTo (MaySettle tells seen moment left_since may_leave faults now) old new own
      pub hears : Hears (raised (before_own old adds.others adds.settling) old.epoch.raised)
          old.epoch new.epoch
      pub asks : MayAskTheWord old.epoch new.epoch

    abbrev pub RefusesHouse : ℕ → (own : List Entry → List Entry) → (raised : List Entry → ℕ → ℕ)
        → (old new : HousePass D) → JournalFault → Type 0
    RefusesHouse now own raised old new Disk = RefusesWith now
        (λ log. fault_at (moment_after o.book.state log) (base_after o.book.state log) ∷ [])
        raised_behind old new × MarksDoubt own new
    RefusesHouse now own raised old new Memory =
        RefusesWith now (λ log. []) raised_behind old new
        ⊎ (RefusesWith now own raised old new × AsksTheWord old.epoch new.epoch)

    -- The leases are lost, and the moment of the loss is raised.
    pub record LosesHouse (now : ℕ) (old new : HousePass D) (count : ℕ) (lane : ToldRecords)
        : Type 0 where
      pub adds : AddsTo (IsSettling tells seen moment left_since may_leave faults now) old new
          (λ log. loss_behind log now new.epoch.heard)
      -- those that were live
      pub counted : count ≡ lease_count
          (state_after o.book.state (before_own old adds.others adds.settling)).table
          (max now (moment_after o.book.state (before_own old adds.others adds.settling)))
      pub hears : Hears
          (raised_by_loss now (before_own old adds.others adds.settling) old.epoch.raised)
          old.epoch new.epoch
      pub asks : AsksTheWord old.epoch new.epoch
      pub raised : raised_behind (before_own old adds.others adds.settling) old.epoch.raised
          ≤ new.epoch.heard
      pub published : lane ≡ told_of o new.history.seen

    abbrev pub RefusesAt : ℕ → ℕ → (own : List Entry → List Entry) → (raised : List Entry → ℕ → ℕ)
        → (old new : HousePass D) → HouseFault → Type 0
    RefusesAt place now own raised old new fault =
        (cause : JournalFault) × (fault ≡ fault_of place cause)
        × RefusesHouse now own raised old new cause

module _ {D : Type 0} where
  -- another pass knows as much, and has noted nothing; the two have together what the one had of
  -- the right to make passes, and to raise
  pub record SplitsHouse (house : HouseView D) (old kept new : HousePass D) : Type 0 where
    pub is : IsPassOf house new
    pub shard : new.shard ≡ old.shard
    pub kept_shard : kept.shard ≡ old.shard
    pub history : SplitsPass old.history kept.history new.history
    pub epoch : AreSplit old.epoch kept.epoch new.epoch

  -- that right is used up
  abbrev pub IsUsedUp : HousePass D → Type 0
  IsUsedUp pass = (pass.history.room < 2) ⊎ (pass.epoch.share < 2)

  -- it has seen the longer of two lists, and has noted what both have
  pub record MeetsHouse (old other new : HousePass D) : Type 0 where
    pub seen : new.history.seen ≡ longer old.history.seen other.history.seen
    pub begins : IsPrefix old.history.seen new.history.seen
        × IsPrefix other.history.seen new.history.seen
    pub mine : new.history.mine ≡ old.history.mine ++ other.history.mine
    pub settled : new.history.settled ≡ old.history.settled ++ other.history.settled
    pub room : new.history.room ≡ old.history.room + other.history.room
    pub raised : new.epoch.raised ≡ max old.epoch.raised other.epoch.raised
    pub heard : new.epoch.heard ≡ max old.epoch.heard other.epoch.heard
    pub asked : new.epoch.asked ≡ old.epoch.asked + other.epoch.asked
    pub share : new.epoch.share ≡ old.epoch.share + other.epoch.share
