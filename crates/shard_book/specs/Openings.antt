-- What opening a book leaves (our own).
use Rattle.std.specs.Prelude.{◌≡◌, ◌⊎◌, ℕ, ◌+◌, ◌-◌, ◌^◌, ◌<◌, ◌≤◌, List, [], ⊤, None}
use Rattle.pcp_base.specs.declared.addresses.Address.{Address}
use Rattle.pcp_base.specs.declared.records.Record.{Record}
use Rattle.pcp_base.specs.Apply.{apply_all, is_another}
use Rattle.pcp_base.specs.States.{State}
use Rattle.lease_store.specs.declared.terms.Terms.{Terms}
use Rattle.lease_disk.specs.declared.disks.DiskPair.{DiskPair}
use Rattle.lease_disk.specs.Pairs.{PairLeavesOnly}
use Rattle.lease_journal.specs.declared.errors.Found.{Found}
use Rattle.lease_journal.specs.declared.errors.Found.TheVariants.{Recovered, Blank, Damaged}
use Rattle.journal_sides.specs.declared.sides.Side.{Side}
use Rattle.journal_sides.specs.declared.walks.Standing.{Standing}
use Rattle.journal_sides.specs.Journals.{IsBlank, IsDamaged, StandsFor, fresh_state}
use Rattle.lease_journal.specs.Openings.{FoundMeans, IsShutAnew, LeavesOld, MayOpen}
use Rattle.lease_journal.specs.Views.{JournalView}
use Rattle.journal_sides.specs.Reads.{AreSeenStill}
use Rattle.journal_sides.specs.Settled.{StandsBy}
use Rattle.journal_sides.specs.Writes.{AreDurable, other}
use Rattle.shard_book.specs.Addresses.{renumbering}
use Rattle.shard_book.specs.Books.{BookView}
use Rattle.journal_sides.specs.Frames.{frames_octets}

-- where no records were found the journal was started at m
abbrev pub IsStartUnless : ℕ → State → Found → Type 0
IsStartUnless m s Recovered = ⊤
IsStartUnless m s Blank = s ≡ fresh_state m
IsStartUnless m s Damaged = s ≡ fresh_state m

-- a journal went over to the other side, with the next generation
pub record IsOnOther {D : Type 0} (side : Side) (generation : ℕ) (journal : JournalView D)
    : Type 0 where
  pub turned : journal.side ≡ other side
  pub next : journal.standing.generation ≡ generation + 1

-- Sides that held a and b stood for s, by one of them. The journal is written anew on the other one,
-- unless there is no next generation.
pub record IsWrittenAnew {D : Type 0} (tells : Type 0) (a b : List ℕ) (s : State)
    (journal : JournalView D) : Type 0 where
  pub side : Side
  pub standing : Standing
  pub stood : tells → StandsBy side standing s a b
  pub anew : standing.generation < 2 ^ 64 - 1 → IsOnOther side standing.generation journal

-- the same where records were found; else side b, beside the start, was shut anew
abbrev pub IsOpenedAnew : {D : Type 0} → Type 0 → (D → List ℕ) → DiskPair D → State
    → JournalView D → Found → Type 0
IsOpenedAnew tells seen pair s journal Recovered =
    IsWrittenAnew tells (seen pair.a) (seen pair.b) s journal
IsOpenedAnew tells seen pair s journal Blank =
    tells → IsShutAnew (seen pair.b) (seen journal.pair.b)
IsOpenedAnew tells seen pair s journal Damaged =
    tells → IsShutAnew (seen pair.b) (seen journal.pair.b)

-- the first length is that of the side, but for a frame of these records
pub record IsFirstLength {D : Type 0} (tells : Type 0) (records : List Record)
    (journal : JournalView D) : Type 0 where
  pub alone : records ≡ [] → journal.first_length ≡ journal.standing.length
  pub most : tells → journal.standing.length ≤ journal.first_length + frames_octets records

-- a book opened at m over a pair
pub record IsOpened {D : Type 0} (tells : Type 0) (seen : D → List ℕ) (pair : DiskPair D)
    (terms : Terms) (m : ℕ) (book : BookView D) (found : Found) : Type 0 where
  -- the state of the records that were found, or of the start that was made
  pub opened : State
  pub «from» : tells → FoundMeans m (seen pair.a) (seen pair.b) opened found
  pub start : IsStartUnless m opened found
  pub state : book.state ≡ apply_all opened (renumbering m terms.external.address opened)
  pub last : book.last ≡ book.state.last
  pub on_terms : book.terms ≡ terms
  pub renumbered : book.renumbered ≡ is_another terms.external.address opened.address
  pub settled : book.fault ≡ None
  pub sure : book.unsure ≡ []
  -- nothing is believed that this opening hasn't written
  pub anew : IsOpenedAnew tells seen pair opened book.journal found
  pub first_length :
      IsFirstLength tells (renumbering m terms.external.address opened) book.journal

-- sides that held a and b stand for s, or, where they stand for nothing, a start at m does
abbrev pub OpensAs : ℕ → State → List ℕ → List ℕ → Type 0
OpensAs m s a b = StandsFor s a b ⊎ ((IsBlank a b ⊎ IsDamaged a b) × (s ≡ fresh_state m))

-- After sides that held a and b are opened at m for a book with this address, in the middle too, a
-- crash may leave x and y: what the opening of the journal may leave, or the Renumber is in.
abbrev pub MayOpenBook : ℕ → Address → List ℕ → List ℕ → List ℕ → List ℕ → Type 0
MayOpenBook m address a b x y =
    MayOpen m a b x y
    ⊎ ((s : State) × OpensAs m s a b × StandsFor (apply_all s (renumbering m address s)) x y)

-- At some moment both sides are synced and hold what they held. From then on a crash leaves what
-- the opening may leave.
pub record OpensBook {D : Type 0} (seen : D → List ℕ) (moment : D → ℕ)
    (left_since : D → ℕ → List ℕ → Type 0) (may_leave : D → List ℕ → Type 0) (m : ℕ)
    (address : Address) (old new : DiskPair D) : Type 0 where
  pub synced : DiskPair D
  pub until : LeavesOld moment left_since may_leave old synced
  pub durable : AreDurable seen may_leave synced
  pub still : AreSeenStill seen old synced
  pub «from» : PairLeavesOnly moment left_since may_leave synced new
      (MayOpenBook m address (seen old.a) (seen old.b))
