-- A house of many threads, as its workers see it (our own).
use Rattle.std.specs.Prelude.{◌≡◌, ◌≢◌, ◌⊎◌, ℕ, List, [], ◌∷◌}
use Rattle.pcp_base.specs.declared.datagrams.Datagram.{Datagram}
use Rattle.pcp_base.specs.declared.datagrams.Entry.{Entry}
use Rattle.journal_sides.specs.declared.errors.JournalFault.{JournalFault}
use Rattle.journal_sides.specs.declared.errors.JournalFault.TheVariants as JournalFaults
use Rattle.lane_index.specs.Lanes.{ToldRecords}
use Rattle.lease_histories.specs.Legal.{base_after, moment_after}
use Rattle.lease_house.specs.declared.faults.HouseFault.{HouseFault}
use Rattle.lease_house.specs.SoloCalls.{fault_at as fault_of}
use Rattle.job_workers.specs.HouseCalls.{HouseCalls}
use Rattle.turned_shards.specs.declared.openings.Opening.{Opening}
use Rattle.turned_shards.specs.declared.passes.HousePass.{HousePass}
use Rattle.turned_shards.specs.BatchEntries.{fault_at}
use Rattle.shared_house.specs.HouseCalls.{AsksTheWord, BeginsAt, HearsHouse, HouseView, IsPassOf, LosesHouse, MarksDoubt, RefusesWith, ServesHouse, SplitsHouse, batch_behind, before_own, loss_behind, raised_behind, raised_by_loss}

module _ {D : Type 0} where
  -- the history of the external address at this place began with the house's configuration
  abbrev pub OpensWith : HouseView D → ℕ → Type 0
  OpensWith house place = (o : Opening D) → BeginsAt house place o → o.config ≡ house.config

  pub record IsServingPass (house : HouseView D) (pass : HousePass D) : Type 0 where
    pub is : IsPassOf house pass
    pub opens : OpensWith house pass.shard

  -- with this the history of the pass's external address began
  pub record IsOpeningOf (house : HouseView D) (pass : HousePass D) (o : Opening D) : Type 0 where
    pub begins : BeginsAt house pass.shard o
    pub config : o.config ≡ house.config

  -- a fault of a disk
  abbrev pub fault_behind : Opening D → List Entry → List Entry
  fault_behind o log =
      fault_at (moment_after o.book.state log) (base_after o.book.state log) ∷ []

module _ {D : Type 0} (tells : Type 0) (seen : D → List ℕ) (moment : D → ℕ)
    (left_since : D → ℕ → List ℕ → Type 0) (may_leave : D → List ℕ → Type 0) (faults : D → ℕ)
  where
    -- the batch was answered; these are its entries, behind all that the pass then had seen
    pub record AnswersHere (house : HouseView D) (now : ℕ) (batch : List Datagram)
        (old new : HousePass D) (own : List Entry) (replies : List Datagram) : Type 0 where
      pub opening : Opening D
      pub opens : IsOpeningOf house old opening
      pub lane : ToldRecords
      pub serves : ServesHouse opening tells seen moment left_since may_leave faults now batch old
          new replies lane
      pub own_is : own ≡ batch_behind opening
          (before_own opening old serves.adds.others serves.adds.settling) now new.epoch.heard batch

    -- all leases were lost, by one entry
    pub record LosesHere (house : HouseView D) (now : ℕ) (old new : HousePass D)
        (own : List Entry) : Type 0 where
      pub opening : Opening D
      pub opens : IsOpeningOf house old opening
      pub count : ℕ
      pub lane : ToldRecords
      pub loses : LosesHouse opening tells seen moment left_since may_leave faults now old new count
          lane
      pub own_is : own ≡ loss_behind opening
          (before_own opening old loses.adds.others loses.adds.settling) now new.epoch.heard

    -- a refused call whose own entries are what `wanted` makes of the history before them
    pub record NotesHere (now : ℕ) (opening : Opening D) (wanted : List Entry → List Entry)
        (raised : List Entry → ℕ → ℕ) (old new : HousePass D) (own : List Entry) : Type 0 where
      pub refuses : RefusesWith opening tells seen moment left_since may_leave faults now wanted
          raised old new
      pub own_is : own
          ≡ wanted (before_own opening old refuses.adds.others refuses.adds.settling)

    -- After a fault of a disk that is the call's own entry, and its mark tells what is in doubt. Where
    -- memory was wanting it has none, or those that were wanted.
    abbrev pub NotesOwn : (now : ℕ) (opening : Opening D) (wanted : List Entry → List Entry)
        (raised : List Entry → ℕ → ℕ) (old new : HousePass D) → List Entry → JournalFault → Type 0
    NotesOwn now opening wanted raised old new own JournalFaults.Disk =
        NotesHere now opening (fault_behind opening) (raised_behind opening) old new own
        × MarksDoubt opening wanted new
    NotesOwn now opening wanted raised old new own JournalFaults.Memory =
        NotesHere now opening (λ log. []) (raised_behind opening) old new own
        ⊎ NotesHere now opening wanted raised old new own

    -- A batch was refused. Entries of its own, but for a fault, are by what the word told in this
    -- call.
    pub record RefusesBatchHere (house : HouseView D) (now : ℕ) (batch : List Datagram)
        (old new : HousePass D) (own : List Entry) (fault : HouseFault) : Type 0 where
      pub opening : Opening D
      pub opens : IsOpeningOf house old opening
      pub cause : JournalFault
      pub fault_is : fault ≡ fault_of old.shard cause
      pub notes : NotesOwn now opening
          (λ log. batch_behind opening log now new.epoch.heard batch)
          (raised_behind opening) old new own cause
      pub asks : cause ≡ JournalFaults.Memory → own ≢ [] → AsksTheWord old.epoch new.epoch

    -- so it is where a loss was refused
    pub record RefusesLossHere (house : HouseView D) (now : ℕ) (old new : HousePass D)
        (own : List Entry) (fault : HouseFault) : Type 0 where
      pub opening : Opening D
      pub opens : IsOpeningOf house old opening
      pub cause : JournalFault
      pub fault_is : fault ≡ fault_of old.shard cause
      pub notes : NotesOwn now opening
          (λ log. loss_behind opening log now new.epoch.heard)
          (raised_by_loss opening now) old new own cause
      pub asks : cause ≡ JournalFaults.Memory → own ≢ [] → AsksTheWord old.epoch new.epoch

    abbrev pub calls_of : HouseView D → HouseCalls (HousePass D)
    calls_of house = record {
      config = house.config;
      is_pass = IsServingPass house;
      place_of = λ p. p.shard;
      answers = AnswersHere house;
      loses = LosesHere house;
      refuses_batch = RefusesBatchHere house;
      refuses_loss = RefusesLossHere house;
      hears = λ old new base. (new.history ≡ old.history)
          × HearsHouse old.epoch new.epoch base;
      splits = SplitsHouse house;
    }
