-- A call behind the turn of an external address, while its shard is held (our own; for private
-- contracts).
use Rattle.std.specs.Prelude.{◌≡◌, ◌⊎◌, ◌≤◌, ◌+◌, ℕ, max, true, false, List, [], ◌∷◌, ◌++◌}
use Rattle.std.specs.Prelude.{map, None}
use Rattle.pcp_base.specs.declared.datagrams.Datagram.{Datagram}
use Rattle.pcp_base.specs.declared.datagrams.Entry.{Entry}
use Rattle.journal_sides.specs.declared.errors.JournalFault.{JournalFault}
use Rattle.journal_sides.specs.declared.errors.JournalFault.TheVariants.{Disk, Memory}
use Rattle.lease_store.specs.Lookups.{lease_count}
use Rattle.lease_histories.specs.Legal.{base_after, moment_after, state_after}
use Rattle.atomic_table.specs.Seated.{TableId}
use Rattle.turn_lock.specs.Passes.{TurnName, after_note}
use Rattle.epoch_word.specs.Rule.{SeatKnowledge}
use Rattle.turned_shards.specs.declared.marks.Mark.{Mark}
use Rattle.turned_shards.specs.declared.openings.Opening.{Opening}
use Rattle.turned_shards.specs.declared.passes.HousePass.{HousePass}
use Rattle.turned_shards.specs.declared.shards.Shard.{Shard}
use Rattle.turned_shards.specs.BatchEntries.{fault_at, reply_in}
use Rattle.shared_house.specs.HouseCalls.{AsksTheWord, Hears, IsSettling, MarksDoubt, MayAskTheWord}
use Rattle.shared_house.specs.HouseCalls.{MaySettle}
use Rattle.shared_house.specs.HouseCalls.{batch_behind, loss_behind, raised_behind, raised_by_loss}
use Rattle.turned_shards.specs.ShardCalls.{faults_of}

-- with this base raised
abbrev pub raised_to : ℕ → SeatKnowledge → SeatKnowledge
raised_to base seat = record seat { raised = max seat.raised base }

-- the word was asked once, and told no less than before, and than what was raised
pub record HearsMore (old new : SeatKnowledge) : Type 0 where
  pub same : new ≡ record old { heard = new.heard; asked = old.asked + 1 }
  pub heard : old.heard ≤ new.heard
  pub raised : old.raised ≤ new.heard

-- so it did, and then this base was raised
pub record HearsAndRaises (old new : SeatKnowledge) (base : ℕ) : Type 0 where
  pub same : new
      ≡ record old { raised = max old.raised base; heard = new.heard; asked = old.asked + 1 }
  pub heard : old.heard ≤ new.heard
  pub raised : old.raised ≤ new.heard

module _ {D : Type 0} where
  -- the entries were noted as the call's own
  abbrev pub NotesOwn : List Entry → (old new : HousePass D) → Type 0
  NotesOwn entries old new =
      (mark : Mark D) × (new.history ≡ after_note true entries mark old.history)

  abbrev pub RefusesHeld : Shard D → List Entry → (old new : HousePass D) → JournalFault → Type 0
  RefusesHeld held entries old new fault =
      NotesOwn (faults_of held.moment held.base fault) old new
      ⊎ ((fault ≡ Memory) × NotesOwn entries old new)

  -- The leases are as they were, and the fault is noted, if a disk failed. Or the loss is noted,
  -- and memory was wanting to publish it.
  abbrev pub RefusesLoss : (held kept : Shard D) → List Entry → (old new : HousePass D)
      → JournalFault → Type 0
  RefusesLoss held kept entries old new fault =
      (NotesOwn (faults_of held.moment held.base fault) old new
      × (kept.book.state ≡ held.book.state))
      ⊎ ((fault ≡ Memory) × NotesOwn entries old new)

  -- where a disk failed the mark of the fault tells what is in doubt
  abbrev pub MarksIfDisk : Opening D → (wanted : List Entry → List Entry) → HousePass D
      → JournalFault → Type 0
  MarksIfDisk o wanted pass fault = fault ≡ Disk → MarksDoubt o wanted pass

  -- the pass is of this turn, which is at home, and of this word
  pub record IsPassBehind (turn : TurnName (Opening D)) (word : TableId) (pass : HousePass D)
      : Type 0 where
    pub turn_is : pass.history.turn ≡ turn.id
    pub home : pass.history.out ≡ false
    pub word_is : pass.epoch.word ≡ word

  -- Behind what the pass had seen, for which the held shard stood, its settling was noted, and then
  -- the call's own entries.
  pub record NotesBehind (Settles : List Entry → List Entry → Type 0) (old new : HousePass D)
      (own : List Entry → List Entry) : Type 0 where
    pub settling : List Entry
    pub settles : Settles old.history.seen settling
    pub settled_mark : Mark D
    pub mark : Mark D
    pub noted : new.history ≡ after_note true (own (old.history.seen ++ settling)) mark
        (after_note false settling settled_mark old.history)

  module _ (tells : Type 0) (seen : D → List ℕ) (moment : D → ℕ)
      (left_since : D → ℕ → List ℕ → Type 0) (may_leave : D → List ℕ → Type 0)
      (faults : D → ℕ) (o : Opening D) where
    -- what a settling added was noted as such, and the base of the state was raised
    pub record SettlesHeld (now : ℕ) (old new : HousePass D) (held : Shard D) : Type 0 where
      pub settling : List Entry
      pub settles : IsSettling o tells seen moment left_since may_leave faults now
          old.history.seen settling
      pub mark : Mark D
      pub history : new.history ≡ after_note false settling mark old.history
      pub settled : held.book.fault ≡ None

    pub record ServesHeld (now : ℕ) (batch : List Datagram) (old new : HousePass D)
        (replies : List Datagram) : Type 0 where
      pub notes : NotesBehind (IsSettling o tells seen moment left_since may_leave faults now)
          old new (λ log. batch_behind o log now new.epoch.heard batch)
      pub told : replies ≡ map reply_in
          (batch_behind o (old.history.seen ++ notes.settling) now new.epoch.heard batch)
      pub hears :
          Hears (raised_behind o (old.history.seen ++ notes.settling) old.epoch.raised)
          old.epoch new.epoch
      pub asks : AsksTheWord old.epoch new.epoch
      pub raised : new.epoch.raised ≤ new.epoch.heard

    pub record LosesHeld (now : ℕ) (old new : HousePass D) (count : ℕ) : Type 0 where
      pub notes : NotesBehind (IsSettling o tells seen moment left_since may_leave faults now)
          old new (λ log. loss_behind o log now new.epoch.heard)
      pub counted : count ≡ lease_count
          (state_after o.book.state (old.history.seen ++ notes.settling)).table
          (max now (moment_after o.book.state (old.history.seen ++ notes.settling)))
      pub hears : Hears
          (raised_by_loss o now (old.history.seen ++ notes.settling) old.epoch.raised)
          old.epoch new.epoch
      pub asks : AsksTheWord old.epoch new.epoch
      pub raised : raised_behind o (old.history.seen ++ notes.settling) old.epoch.raised
          ≤ new.epoch.heard

    pub record FailsWith (now : ℕ) (own : List Entry → List Entry)
        (raised : List Entry → ℕ → ℕ) (old new : HousePass D) : Type 0 where
      pub notes : NotesBehind (MaySettle o tells seen moment left_since may_leave faults now)
          old new own
      pub hears : Hears (raised (old.history.seen ++ notes.settling) old.epoch.raised)
          old.epoch new.epoch
      pub asks : MayAskTheWord old.epoch new.epoch

    abbrev pub FailsHeld : ℕ → (own : List Entry → List Entry) → (raised : List Entry → ℕ → ℕ)
        → (old new : HousePass D) → JournalFault → Type 0
    FailsHeld now own raised old new Disk = FailsWith now
        (λ log. fault_at (moment_after o.book.state log) (base_after o.book.state log) ∷ [])
        (raised_behind o) old new
    FailsHeld now own raised old new Memory =
        FailsWith now (λ log. []) (raised_behind o) old new
        ⊎ (FailsWith now own raised old new × AsksTheWord old.epoch new.epoch)
