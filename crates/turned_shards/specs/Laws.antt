-- What holds of the passes of an external address, and of what is published (our own).
use Rattle.std.specs.Prelude.{◌≡◌, ℕ, List, ◌++◌}
use Rattle.pcp_base.specs.declared.datagrams.Entry.{Entry}
use Rattle.lease_disk.specs.Pairs.{HoldsNow}
use Rattle.journal_sides.specs.Journals.{StandsForWithOrWithout}
use Rattle.lease_histories.specs.Legal.{records_of, state_after}
use Rattle.turn_lock.specs.declared.views.Noted.{Noted}
use Rattle.turn_lock.specs.Laws.{ViewsShareHistory}
use Rattle.turn_lock.specs.Marks.{added_noted, stands_noted}
use Rattle.turned_shards.specs.declared.marks.Mark.{Mark}
use Rattle.turned_shards.specs.declared.openings.Opening.{Opening}
use Rattle.turned_shards.specs.declared.shards.Shard.{Shard}
use Rattle.turned_shards.specs.Shards.{StandsFor, mark_of}

-- What the shard's lane has published are the records of the first of these entries.
pub record IsPublishedOf {D : Type 0} (s : Shard D) (noted : List Entry) : Type 0 where
  pub first : List Entry
  pub more : List Entry
  pub noted_is : noted ≡ first ++ more
  pub published : s.writer.published ≡ records_of first

module _ (D : Type 0) (tells : Type 0) (seen : D → List ℕ) (moment : D → ℕ)
    (left_since : D → ℕ → List ℕ → Type 0) (may_leave : D → List ℕ → Type 0)
    (faults : D → ℕ) where
  -- of two passes of one external address, what the one has seen begins what the other has seen
  abbrev pub PassesShareHistories : Type 0
  PassesShareHistories = (o : Opening D) →
      ViewsShareHistory (Shard D) (Noted Entry (Mark D))
      (stands_noted (StandsFor tells seen moment left_since may_leave faults o))
      (added_noted (λ s. s.added) mark_of)

  -- A shard that stands for entries that were noted and those added since has published records of
  -- noted ones alone.
  abbrev pub PublishedWereNoted : Type 0
  PublishedWereNoted = (o : Opening D) (s : Shard D) (noted : List Entry) (marks : List (Mark D)) →
      StandsFor tells seen moment left_since may_leave faults o s (noted ++ s.added) marks → IsPublishedOf s noted

  -- Each two images of the pair of a shard that stands for a history stand for the state to which
  -- this leads, or for that with all that is in doubt.
  abbrev pub JournalsHaveNoted : Type 0
  JournalsHaveNoted = (o : Opening D) (s : Shard D) (log : List Entry) (marks : List (Mark D)) →
      StandsFor tells seen moment left_since may_leave faults o s log marks → tells →
      HoldsNow may_leave
      (StandsForWithOrWithout (state_after o.book.state log) (records_of s.doubt))
      s.book.journal.pair
