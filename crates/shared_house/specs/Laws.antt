-- What holds of the replies to a batch (our own).
use Rattle.std.specs.Prelude.{◌≡◌, ℕ, true, List, Some}
use Rattle.std.specs.List.{slice_get}
use Rattle.pcp_base.specs.declared.datagrams.Datagram.{Datagram}
use Rattle.pcp_base.specs.declared.datagrams.Entry.{Entry}
use Rattle.lane_index.specs.Lanes.{ToldRecords}
use Rattle.turn_lock.specs.Laws.{KnowsMore, StandsOnce}
use Rattle.turn_lock.specs.Passes.{IsPlaced, PassKnowledge}
use Rattle.turned_shards.specs.declared.marks.Mark.{Mark}
use Rattle.turned_shards.specs.declared.openings.Opening.{Opening}
use Rattle.turned_shards.specs.declared.passes.HousePass.{HousePass}
use Rattle.turned_shards.specs.BatchEntries.{reply_in}
use Rattle.shared_house.specs.HouseCalls.{ServesHouse}

-- the entry of this reply stands in the history, and was noted once, as the pass's own
pub record IsReplyNoted {D : Type 0} (pass : PassKnowledge Entry (Mark D)) (reply : Datagram) : Type 0 where
  pub entry : Entry
  pub place : ℕ
  pub reply_is : reply ≡ reply_in entry
  pub once : StandsOnce true entry place pass

module _ (D : Type 0) (tells : Type 0) (seen : D → List ℕ) (moment : D → ℕ)
    (left_since : D → ℕ → List ℕ → Type 0) (may_leave : D → List ℕ → Type 0)
    (faults : D → ℕ) where
  -- Each reply to a batch is that of an entry that was noted once, as the pass knows from then on.
  abbrev pub RepliesAreNotedOnce : Type 0
  RepliesAreNotedOnce = (o : Opening D) (now : ℕ) (batch : List Datagram) (old new : HousePass D)
      (replies : List Datagram) (lane : ToldRecords) (later : PassKnowledge Entry (Mark D)) →
      ServesHouse o tells seen moment left_since may_leave faults now batch old new replies lane →
      KnowsMore new.history later → IsPlaced later →
      (k : ℕ) (reply : Datagram) → slice_get replies k ≡ Some reply → IsReplyNoted later reply
