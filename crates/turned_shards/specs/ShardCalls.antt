-- What the calls of a shard do (our own).
use Rattle.std.specs.Prelude.{◌≡◌, ◌⊎◌, ℕ, max, List, [], ◌∷◌, map, None}
use Rattle.std.specs.List.{AllByRecursion}
use Rattle.pcp_base.specs.declared.configs.Config.{Config}
use Rattle.pcp_base.specs.declared.datagrams.Datagram.{Datagram}
use Rattle.pcp_base.specs.declared.datagrams.Entry.{Entry}
use Rattle.lease_store.specs.Lookups.{lease_count}
use Rattle.journal_sides.specs.declared.errors.JournalFault.{JournalFault}
use Rattle.journal_sides.specs.declared.errors.JournalFault.TheVariants.{Disk, Memory}
use Rattle.shard_book.specs.declared.standings.Settled.{Settled}
use Rattle.shard_book.specs.Settlings.{KeepsDoubt, Settles}
use Rattle.lease_histories.specs.Routes.{route_of}
use Rattle.turned_shards.specs.declared.openings.Opening.{Opening}
use Rattle.turned_shards.specs.declared.shards.Shard.{Shard}
use Rattle.turned_shards.specs.BatchEntries.{asked_in, entries_along, entries_settled, fault_at}
use Rattle.turned_shards.specs.BatchEntries.{loss_at, reply_in}

-- what a refused call adds: a fault entry, where a disk failed
abbrev pub faults_of : ℕ → ℕ → JournalFault → List Entry
faults_of m base Disk = fault_at m base ∷ []
faults_of m base Memory = []

-- what it leaves in doubt
abbrev pub doubted : JournalFault → List Entry → List Entry
doubted Disk entries = entries
doubted Memory entries = []

-- the batch is one of the external address that begins so
pub record IsBatchOf {D : Type 0} (o : Opening D) (config : Config) (batch : List Datagram)
    : Type 0 where
  pub config_is : config ≡ o.config
  pub routed : AllByRecursion (λ d. route_of config d ≡ o.place) batch

module _ {D : Type 0} (tells : Type 0) (moment : D → ℕ) (left_since : D → ℕ → List ℕ → Type 0)
    (may_leave : D → List ℕ → Type 0) where
  -- the book is settled, and what its journal has of the entries in doubt is added
  pub record SettlesShard (now : ℕ) (old new : Shard D) : Type 0 where
    pub settled : Settled
    pub settles : Settles tells moment left_since may_leave (max now old.moment) old.book new.book
        settled
    pub added : new.added ≡ entries_settled old.base old.doubt settled
    pub sure : new.doubt ≡ []

  -- What is in doubt is so still. Without memory for the records in doubt the book wasn't asked.
  pub record StaysInDoubt (old new : Shard D) (fault : JournalFault) : Type 0 where
    pub keeps : KeepsDoubt tells moment left_since may_leave old.book new.book
        ⊎ ((fault ≡ Memory) × (new.book ≡ old.book))
    pub state : new.book.state ≡ old.book.state
    pub same : new ≡ record old {
      book = new.book;
      added = faults_of old.moment old.base fault;
      unpushed = new.unpushed;
    }
    pub waiting : new.unpushed.items ≡ old.unpushed.items

module _ {D : Type 0} where
  -- the entries of the batch, at the greater of `now` and the last moment
  abbrev pub batch_entries : Config → ℕ → ℕ → List Datagram → Shard D → List Entry
  batch_entries config now base batch s =
      entries_along s.book.terms s.book.state (max now s.moment) (max base s.base)
      (asked_in config batch)

  -- they are added
  pub record AddsBatch (config : Config) (now base : ℕ) (batch : List Datagram)
      (old new : Shard D) : Type 0 where
    pub added : new.added ≡ batch_entries config now base batch old
    pub settled : new.book.fault ≡ None
    pub sure : new.doubt ≡ []

  -- and answered
  pub record AnswersBatch (config : Config) (now base : ℕ) (batch : List Datagram)
      (old new : Shard D) (replies : List Datagram) : Type 0 where
    pub adds : AddsBatch config now base batch old new
    pub told : replies ≡ map reply_in new.added

  -- a fault is added, or nothing, and these entries are in doubt
  pub record LeavesInDoubt (entries : List Entry) (old new : Shard D) (fault : JournalFault)
      : Type 0 where
    pub added : new.added ≡ faults_of old.moment old.base fault
    pub doubt : new.doubt ≡ doubted fault entries
    pub moment : new.moment ≡ old.moment
    pub base : new.base ≡ old.base
    pub state : new.book.state ≡ old.book.state

  -- Without memory for a reply the entries are added all the same.
  abbrev pub RefusesBatch : Config → (now base : ℕ) → List Datagram → (old new : Shard D)
      → JournalFault → Type 0
  RefusesBatch config now base batch old new fault =
      LeavesInDoubt (batch_entries config now base batch old) old new fault
      ⊎ ((fault ≡ Memory) × AddsBatch config now base batch old new)

  -- the loss, at the greater of `now` and the last moment
  abbrev pub loss_entries : ℕ → ℕ → Shard D → List Entry
  loss_entries now base s = loss_at (max now s.moment) (max base s.base) ∷ []

  pub record AddsLoss (now base : ℕ) (old new : Shard D) (count : ℕ) : Type 0 where
    pub added : new.added ≡ loss_entries now base old
    -- those that were live
    pub counted : count ≡ lease_count old.book.state.table (max now old.moment)
    pub settled : new.book.fault ≡ None
    pub sure : new.doubt ≡ []
