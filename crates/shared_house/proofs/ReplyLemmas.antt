-- The replies to a batch are those of entries that were noted once.
use Rattle.std.specs.List.{slice_get}
use Rattle.std.proofs.Common.{◌≡◌, ◌∙◌, ℕ, zero, suc, ◌+◌, true, List, [], ◌∷◌, ◌++◌, length, map}
use Rattle.std.proofs.Common.{Some, refl, ap, sym, subst}
use Rattle.pcp_base.specs.declared.datagrams.Datagram.{Datagram}
use Rattle.pcp_base.specs.declared.datagrams.Entry.{Entry}
use Rattle.lane_index.specs.Lanes.{ToldRecords}
use Rattle.turn_lock.specs.Laws.{KnowsMore, NotedStandsOnce}
use Rattle.turn_lock.specs.Passes.{IsPlaced, PassKnowledge, after_note}
use Rattle.turn_lock.specs.Marks.{marks_beside}
use Rattle.turned_shards.specs.declared.marks.Mark.{Mark}
use Rattle.turned_shards.specs.declared.openings.Opening.{Opening}
use Rattle.turned_shards.specs.declared.passes.HousePass.{HousePass}
use Rattle.turned_shards.specs.BatchEntries.{reply_in}
use Rattle.shared_house.specs.HouseCalls.{ServesHouse, batch_behind, before_own}
use Rattle.shared_house.specs.Laws.{IsReplyNoted}

record IsMapped {X Y : Type 0} (f : X → Y) (xs : List X) (k : ℕ) (y : Y) : Type 0 where
  pub x : X
  pub there : slice_get xs k ≡ Some x
  pub is : y ≡ f x

mapped : {X Y : Type 0} (f : X → Y) (xs : List X) (k : ℕ) (y : Y) →
    slice_get (map f xs) k ≡ Some y → IsMapped f xs k y
mapped f [] k y h = absurd cc
mapped f (x ∷ xs) zero y h =
    let same : f x ≡ y = cc in record { x = x; there = refl; is = sym same }
mapped f (x ∷ xs) (suc k) y h =
    let rest = mapped f xs k y h in record { x = rest.x; there = rest.there; is = rest.is }

module _ {D : Type 0} (tells : Type 0) (seen : D → List ℕ) (moment : D → ℕ)
    (left_since : D → ℕ → List ℕ → Type 0) (may_leave : D → List ℕ → Type 0) (counts : D → ℕ) where
  pub replies-noted : NotedStandsOnce Entry (Mark D) →
      (o : Opening D) (now : ℕ) (batch : List Datagram) (old new : HousePass D)
      (replies : List Datagram) (lane : ToldRecords) (later : PassKnowledge Entry (Mark D)) →
      ServesHouse o tells seen moment left_since may_leave counts now batch old new replies lane →
      KnowsMore new.history later → IsPlaced later →
      (k : ℕ) (reply : Datagram) → slice_get replies k ≡ Some reply → IsReplyNoted later reply
  replies-noted once o now batch old new replies lane later serves knows placed k reply there =
      let before : List Entry = before_own o old serves.adds.others serves.adds.settling in
      let own : List Entry = batch_behind o before now new.epoch.heard batch in
      let notes = serves.adds.notes in
      let p : PassKnowledge Entry (Mark D) = record new.history {
        seen = before;
        marks = old.history.marks ++ notes.more;
        mine = old.history.mine;
      } in
      let is : new.history ≡ after_note true own notes.mark p =
      ap (λ (l : List Entry). record new.history { seen = l }) notes.seen
      ∙ ap (λ (l : List (Mark D)). record new.history { seen = before ++ own; marks = l }) notes.marks
      ∙ ap (λ (l : List ℕ). record new.history {
        seen = before ++ own;
        marks = (old.history.marks ++ notes.more) ++ marks_beside notes.mark own;
        mine = l;
      }) notes.mine in
      let at = mapped reply_in own k reply
      (subst (λ (l : List Datagram). slice_get l k ≡ Some reply) serves.told there) in
      record {
        entry = at.x;
        place = length before + k;
        reply_is = at.is;
        once = once true own notes.mark p later k at.x
            (subst (λ (q : PassKnowledge Entry (Mark D)). KnowsMore q later) is knows) placed at.there;
      }
