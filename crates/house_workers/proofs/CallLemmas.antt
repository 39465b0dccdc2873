-- The house's calls, as its workers see them.
use Rattle.std.proofs.Common.{◌≡◌, ◌≢◌, ℕ, List, [], Result, Ok, Err, IfOk, refl, sym, subst, inl, inr}
use Rattle.pcp_base.specs.declared.datagrams.Datagram.{Datagram}
use Rattle.pcp_base.specs.declared.datagrams.Entry.{Entry}
use Rattle.pcp_base.specs.declared.errors.Memory.{Memory}
use Rattle.journal_sides.specs.declared.errors.JournalFault.{JournalFault}
use Rattle.journal_sides.specs.declared.errors.JournalFault.TheVariants as JournalFaults
use Rattle.lane_index.specs.Lanes.{ToldRecords}
use Rattle.lease_house.specs.declared.faults.HouseFault.{HouseFault}
use Rattle.job_workers.specs.HouseCalls.{AnswersBatchOf, IsTold, LosesAllOf, RefusesBatchOf, RefusesLossOf, SplitsOff, StaysPass}
use Rattle.turned_shards.specs.declared.openings.Opening.{Opening}
use Rattle.turned_shards.specs.declared.passes.HousePass.{HousePass}
use Rattle.shared_house.specs.HouseCalls.{AsksTheWord, BeginsAt, HearsHouse, HouseView, IsPassOf, LosesHouse, RefusesAt, RefusesHouse, ServesHouse, SplitsHouse, batch_behind, before_own, loss_behind, raised_behind, raised_by_loss}
use Rattle.house_workers.specs.HouseCallsOf.{IsOpeningOf, IsServingPass, NotesOwn, OpensWith, calls_of, fault_behind}

module _ {D : Type 0} (tells : Type 0) (seen : D → List ℕ) (moment : D → ℕ)
    (left_since : D → ℕ → List ℕ → Type 0) (may_leave : D → List ℕ → Type 0) (faults : D → ℕ)
  where
    stays : (house : HouseView D) (old new : HousePass D) → IsServingPass house old → IsPassOf house new → new.shard ≡ old.shard
        → StaysPass (calls_of tells seen moment left_since may_leave faults house) old new
    stays house old new is new_is same = record {
      is = λ _. record { is = new_is; opens = subst (λ n. OpensWith house n) (sym same) is.opens };
      place = same;
    }

    -- with this the history of the pass began
    opening_at : (house : HouseView D) (old : HousePass D) (is : IsServingPass house old) → IsOpeningOf house old is.is.turn.key
    opening_at house old is =
        let begins : BeginsAt house old.shard is.is.turn.key = (is.is.turn, is.is.there, refl) in
        record { begins = begins; config = is.opens is.is.turn.key begins }

    serves_here : (house : HouseView D) (now : ℕ) (batch : List Datagram) (old new : HousePass D) (replies : List Datagram) (lane : ToldRecords)
        → IsServingPass house old → IsPassOf house new → new.shard ≡ old.shard
        → ((o : Opening D) → BeginsAt house old.shard o → ServesHouse o tells seen moment left_since may_leave faults now batch old new replies lane)
        → AnswersBatchOf (calls_of tells seen moment left_since may_leave faults house) now batch old new replies
    serves_here house now batch old new replies lane is new_is same all =
        let opens = opening_at house old is in
        let serves = all is.is.turn.key opens.begins in
        record {
          own = batch_behind is.is.turn.key (before_own is.is.turn.key old serves.adds.others serves.adds.settling) now new.epoch.heard batch;
          answers = record { opening = is.is.turn.key; opens = opens; lane = lane; serves = serves; own_is = refl };
          stays = stays house old new is new_is same;
        }

    loses_here : (house : HouseView D) (now : ℕ) (old new : HousePass D) (count : ℕ) (lane : ToldRecords)
        → IsServingPass house old → IsPassOf house new → new.shard ≡ old.shard
        → ((o : Opening D) → BeginsAt house old.shard o → LosesHouse o tells seen moment left_since may_leave faults now old new count lane)
        → LosesAllOf (calls_of tells seen moment left_since may_leave faults house) now old new
    loses_here house now old new count lane is new_is same all =
        let opens = opening_at house old is in
        let loses = all is.is.turn.key opens.begins in
        record {
          own = loss_behind is.is.turn.key (before_own is.is.turn.key old loses.adds.others loses.adds.settling) now new.epoch.heard;
          loses = record { opening = is.is.turn.key; opens = opens; count = count; lane = lane; loses = loses; own_is = refl };
          stays = stays house old new is new_is same;
        }

    -- what a refused call noted
    notes_of : (now : ℕ) (o : Opening D) (wanted : List Entry → List Entry) (raised : List Entry → ℕ → ℕ) (old new : HousePass D) (cause : JournalFault)
        → RefusesHouse o tells seen moment left_since may_leave faults now wanted raised old new cause
        → (own : List Entry) × NotesOwn tells seen moment left_since may_leave faults now o wanted raised old new own cause
        × (cause ≡ JournalFaults.Memory → own ≢ [] → AsksTheWord old.epoch new.epoch)
    notes_of now o wanted raised old new JournalFaults.Disk r = (
      fault_behind o (before_own o old r.0.adds.others r.0.adds.settling),
      (record { refuses = r.0; own_is = refl }, r.1),
      λ disk some. absurd (cc (disk)),
    )
    notes_of now o wanted raised old new JournalFaults.Memory (inl r) =
        ([], inl (record { refuses = r; own_is = refl }), λ memory some. absurd (some refl))
    notes_of now o wanted raised old new JournalFaults.Memory (inr (r, asks)) = (
      wanted (before_own o old r.adds.others r.adds.settling),
      inr (record { refuses = r; own_is = refl }),
      λ memory some. asks,
    )

    refuses_batch_here : (house : HouseView D) (now : ℕ) (batch : List Datagram) (old new : HousePass D) (fault : HouseFault)
        → IsServingPass house old → IsPassOf house new → new.shard ≡ old.shard
        → ((o : Opening D) → BeginsAt house old.shard o → RefusesAt o tells seen moment left_since may_leave faults old.shard now
        (λ log. batch_behind o log now new.epoch.heard batch) (raised_behind o) old new fault)
        → RefusesBatchOf (calls_of tells seen moment left_since may_leave faults house) now batch old new fault
    refuses_batch_here house now batch old new fault is new_is same all =
        let opens = opening_at house old is in
        let refuses = all is.is.turn.key opens.begins in
        let notes = notes_of now is.is.turn.key (λ log. batch_behind is.is.turn.key log now new.epoch.heard batch) (raised_behind is.is.turn.key) old new refuses.0 refuses.2 in
        record {
          own = notes.0;
          refuses = record { opening = is.is.turn.key; opens = opens; cause = refuses.0; fault_is = refuses.1; notes = notes.1; asks = notes.2 };
          stays = stays house old new is new_is same;
        }

    refuses_loss_here : (house : HouseView D) (now : ℕ) (old new : HousePass D) (fault : HouseFault)
        → IsServingPass house old → IsPassOf house new → new.shard ≡ old.shard
        → ((o : Opening D) → BeginsAt house old.shard o → RefusesAt o tells seen moment left_since may_leave faults old.shard now
        (λ log. loss_behind o log now new.epoch.heard) (raised_by_loss o now) old new fault)
        → RefusesLossOf (calls_of tells seen moment left_since may_leave faults house) now old new fault
    refuses_loss_here house now old new fault is new_is same all =
        let opens = opening_at house old is in
        let refuses = all is.is.turn.key opens.begins in
        let notes = notes_of now is.is.turn.key (λ log. loss_behind is.is.turn.key log now new.epoch.heard) (raised_by_loss is.is.turn.key now) old new refuses.0 refuses.2 in
        record {
          own = notes.0;
          refuses = record { opening = is.is.turn.key; opens = opens; cause = refuses.0; fault_is = refuses.1; notes = notes.1; asks = notes.2 };
          stays = stays house old new is new_is same;
        }

    told_here : (house : HouseView D) (old new : HousePass D) (base : ℕ) → IsServingPass house old → IsPassOf house new → new.shard ≡ old.shard
        → new.history ≡ old.history → HearsHouse old.epoch new.epoch base
        → IsTold (calls_of tells seen moment left_since may_leave faults house) old new base
    told_here house old new base is new_is same history heard =
        record { hears = (history, heard); stays = stays house old new is new_is same }

    splits_here : (house : HouseView D) (old kept other : HousePass D) → IsServingPass house old → IsPassOf house kept → SplitsHouse house old kept other
        → SplitsOff (calls_of tells seen moment left_since may_leave faults house) old kept other
    splits_here house old kept other is kept_is splits = record {
      splits = splits;
      stays = stays house old kept is kept_is splits.kept_shard;
      is = record { is = splits.is; opens = subst (λ n. OpensWith house n) (sym splits.shard) is.opens };
      place = splits.shard;
    }

    may_split : (house : HouseView D) (old kept : HousePass D) (result : Result (HousePass D) Memory) → IsServingPass house old → IsPassOf house kept
        → IfOk result (SplitsHouse house old kept)
        → IfOk result (SplitsOff (calls_of tells seen moment left_since may_leave faults house) old kept)
    may_split house old kept (Ok other) is kept_is splits = splits_here house old kept other is kept_is splits
    may_split house old kept (Err memory) is kept_is splits = tt

    -- ---- the same, for the house inside

    at_view : (house inside : HouseView D) (place : ℕ) (o : Opening D) → inside ≡ house → BeginsAt house place o → BeginsAt inside place o
    at_view house inside place o view begins = subst (λ (h : HouseView D). BeginsAt h place o) (sym view) begins

    pass_in : (house inside : HouseView D) (pass : HousePass D) → inside ≡ house → IsPassOf inside pass → IsPassOf house pass
    pass_in house inside pass view is = subst (λ (h : HouseView D). IsPassOf h pass) view is

    pub serves_by : (house inside : HouseView D) (now : ℕ) (batch : List Datagram) (old new : HousePass D) (replies : List Datagram) (lane : ToldRecords) → inside ≡ house
        → IsServingPass house old → IsPassOf inside new → new.shard ≡ old.shard
        → ((o : Opening D) → BeginsAt inside old.shard o → ServesHouse o tells seen moment left_since may_leave faults now batch old new replies lane)
        → AnswersBatchOf (calls_of tells seen moment left_since may_leave faults house) now batch old new replies
    serves_by house inside now batch old new replies lane view is new_is same all =
        serves_here house now batch old new replies lane is (pass_in house inside new view new_is) same
        (λ o begins. all o (at_view house inside old.shard o view begins))

    pub loses_by : (house inside : HouseView D) (now : ℕ) (old new : HousePass D) (count : ℕ) (lane : ToldRecords) → inside ≡ house
        → IsServingPass house old → IsPassOf inside new → new.shard ≡ old.shard
        → ((o : Opening D) → BeginsAt inside old.shard o → LosesHouse o tells seen moment left_since may_leave faults now old new count lane)
        → LosesAllOf (calls_of tells seen moment left_since may_leave faults house) now old new
    loses_by house inside now old new count lane view is new_is same all =
        loses_here house now old new count lane is (pass_in house inside new view new_is) same
        (λ o begins. all o (at_view house inside old.shard o view begins))

    pub refuses_batch_by : (house inside : HouseView D) (now : ℕ) (batch : List Datagram) (old new : HousePass D) (fault : HouseFault) → inside ≡ house
        → IsServingPass house old → IsPassOf inside new → new.shard ≡ old.shard
        → ((o : Opening D) → BeginsAt inside old.shard o → RefusesAt o tells seen moment left_since may_leave faults old.shard now
        (λ log. batch_behind o log now new.epoch.heard batch) (raised_behind o) old new fault)
        → RefusesBatchOf (calls_of tells seen moment left_since may_leave faults house) now batch old new fault
    refuses_batch_by house inside now batch old new fault view is new_is same all =
        refuses_batch_here house now batch old new fault is (pass_in house inside new view new_is) same
        (λ o begins. all o (at_view house inside old.shard o view begins))

    pub refuses_loss_by : (house inside : HouseView D) (now : ℕ) (old new : HousePass D) (fault : HouseFault) → inside ≡ house
        → IsServingPass house old → IsPassOf inside new → new.shard ≡ old.shard
        → ((o : Opening D) → BeginsAt inside old.shard o → RefusesAt o tells seen moment left_since may_leave faults old.shard now
        (λ log. loss_behind o log now new.epoch.heard) (raised_by_loss o now) old new fault)
        → RefusesLossOf (calls_of tells seen moment left_since may_leave faults house) now old new fault
    refuses_loss_by house inside now old new fault view is new_is same all =
        refuses_loss_here house now old new fault is (pass_in house inside new view new_is) same
        (λ o begins. all o (at_view house inside old.shard o view begins))

    pub told_by : (house inside : HouseView D) (old new : HousePass D) (base : ℕ) → inside ≡ house → IsServingPass house old → IsPassOf inside new → new.shard ≡ old.shard
        → new.history ≡ old.history → HearsHouse old.epoch new.epoch base
        → IsTold (calls_of tells seen moment left_since may_leave faults house) old new base
    told_by house inside old new base view is new_is same history heard =
        told_here house old new base is (pass_in house inside new view new_is) same history heard

    pub splits_by : (house inside : HouseView D) (old kept : HousePass D) (result : Result (HousePass D) Memory) → inside ≡ house → IsServingPass house old → IsPassOf inside kept
        → IfOk result (SplitsHouse inside old kept)
        → IfOk result (SplitsOff (calls_of tells seen moment left_since may_leave faults house) old kept)
    splits_by house inside old kept result view is kept_is splits =
        may_split house old kept result is (pass_in house inside kept view kept_is)
        (subst (λ (h : HouseView D). IfOk result (SplitsHouse h old kept)) view splits)
