-- What it means that a shard stands for a history (our own).
use Rattle.std.specs.Prelude.{◌≡◌, ◌≢◌, ◌<◌, ◌≤◌, ◌^◌, ℕ, true, List, [], ◌++◌, Some}
use Rattle.std.specs.List.{AllByRecursion}
use Rattle.pcp_base.specs.declared.datagrams.Entry.{Entry}
use Rattle.pcp_base.specs.declared.records.Record.{Record}
use Rattle.journal_sides.specs.declared.errors.JournalFault.TheVariants.{Disk}
use Rattle.lease_store.specs.LeaseTerms.{terms_of}
use Rattle.lane_index.specs.Lanes.{opening_state}
use Rattle.shard_book.specs.Books.{IsBook}
use Rattle.lease_histories.specs.Entries.{Served}
use Rattle.lease_histories.specs.Legal.{IsLegal, IsOpening, base_after, moment_after, records_of}
use Rattle.lease_histories.specs.Legal.{state_after}
use Rattle.turn_lock.specs.Marks.{marks_beside}
use Rattle.turned_shards.specs.declared.marks.Mark.{Mark}
use Rattle.turned_shards.specs.declared.openings.Opening.{Opening}
use Rattle.turned_shards.specs.declared.shards.Shard.{Shard}
use Rattle.turned_shards.specs.Crashes.{IsKeptSince}
use Rattle.turned_shards.specs.FaultCounts.{HaveRisenBy, ends_in_fault, fault_count}

module _ {D : Type 0} where
  -- the external address that begins so
  abbrev pub served_by : Opening D → Served
  served_by o =
      record { config = o.config; place = o.place; external = o.book.terms.external }

  -- the history is legal, and leads to the state, the moment and the base of the shard
  pub record LeadsTo (o : Opening D) (s : Shard D) (log : List Entry) : Type 0 where
    pub legal : IsLegal (served_by o) o.book.state log
    pub state : state_after o.book.state log ≡ s.book.state
    pub moment : moment_after o.book.state log ≡ s.moment
    pub base : base_after o.book.state log ≡ s.base

  -- Entries in doubt: they may come after each history that leads to the shard, and have this
  -- moment and base.
  pub record MayCome (o : Opening D) (s : Shard D) : Type 0 where
    pub some : s.doubt ≢ []
    pub next : (log : List Entry) → LeadsTo o s log →
        IsLegal (served_by o) o.book.state (log ++ s.doubt)
    pub records : records_of s.doubt ≡ s.book.unsure
    pub at : AllByRecursion
        (λ e. (e.moment ≡ s.doubt_moment) × (e.base ≡ s.doubt_base)) s.doubt
    pub no_faults : fault_count s.doubt ≡ 0
    pub in_range : s.doubt_moment < 2 ^ 40
    pub later : s.moment ≤ s.doubt_moment

  -- the records that the lane's writer has published, those that were pushed to it since, and those
  -- that it hasn't got yet
  abbrev pub all_records : Shard D → List Record
  all_records s = (s.writer.published ++ s.writer.pending) ++ s.unpushed.items

  -- The lane began with the leases of the opening state. All its records are those of the history,
  -- in order, and it hasn't got those of entries that weren't noted.
  pub record HasIndexed (o : Opening D) (s : Shard D) (log : List Entry) : Type 0 where
    pub index : s.writer.index ≡ o.lane.index
    pub opening : s.writer.opening ≡ o.lane.opening
    pub leases : o.lane.opening
        ≡ opening_state o.book.state.table.maps o.book.state.table.peers o.book.state.last
    pub records : all_records s ≡ records_of log
    pub noted : List Record
    pub unnoted : s.unpushed.items ≡ noted ++ records_of s.added

  -- The shard stands for the history, from what the opening found. Its book is on the terms of its
  -- external address and has the state to which the history leads; entries are in doubt exactly
  -- where the book's last refused call answered `Disk`, right behind the entry that tells this; and
  -- the history tells no more faults than the counts of the pair rose since the opening. A crash
  -- at any moment since then leaves the state after some first entries, or that with what was in doubt,
  -- which the marks tell.
  pub record StandsFor (tells : Type 0) (seen : D → List ℕ) (moment : D → ℕ)
      (left_since : D → ℕ → List ℕ → Type 0) (may_leave : D → List ℕ → Type 0)
      (faults : D → ℕ) (o : Opening D) (s : Shard D) (log : List Entry) (marks : List (Mark D))
      : Type 0 where
    pub opening : IsOpening (served_by o) o.book.state
    pub terms : s.book.terms ≡ terms_of (served_by o).external o.config
    pub address : s.address ≡ s.book.terms.external.address
    pub book : IsBook tells seen may_leave s.book
    pub leads : LeadsTo o s log
    pub in_range : s.moment < 2 ^ 40
    pub later : s.book.last ≤ s.moment
    pub doubt : s.book.fault ≡ Some Disk → MayCome o s
    pub sure : s.book.fault ≢ Some Disk → s.doubt ≡ []
    pub failed : s.book.fault ≡ Some Disk → ends_in_fault log ≡ true
    pub risen : HaveRisenBy faults o.book.journal.pair s.book.journal.pair (fault_count log)
    pub indexed : HasIndexed o s log
    pub kept : IsKeptSince tells moment left_since may_leave (served_by o) o.book s.book s.doubt log
        marks

  -- what an entry that is noted now has beside it
  abbrev pub mark_of : Shard D → Mark D
  mark_of s = record { pair = s.book.journal.pair; doubt = s.doubt }

  -- the marks of the entries added
  abbrev pub marks_added : Shard D → List (Mark D)
  marks_added s = marks_beside (mark_of s) s.added

  -- what outlives a note: all but the entries added
  abbrev pub noted_shard : Shard D → Shard D
  noted_shard s = record s { added = [] }
