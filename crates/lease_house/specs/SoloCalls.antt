-- What a call of a house on one thread does (our own).
use Rattle.std.specs.Prelude.{◌≡◌, ◌⊎◌, ℕ, max, List, [], ◌∷◌, Option, Some, None, IsSome, Result, Ok, Err}
use Rattle.pcp_base.specs.declared.asks.Ask.{Ask}
use Rattle.pcp_base.specs.declared.datagrams.Datagram.{Datagram}
use Rattle.pcp_base.specs.declared.records.Change.TheVariants.{Lose}
use Rattle.pcp_base.specs.declared.records.Record.{Record}
use Rattle.lease_core.specs.Decide.{decide}
use Rattle.journal_sides.specs.declared.errors.JournalFault.{JournalFault}
use Rattle.journal_sides.specs.declared.errors.JournalFault.TheVariants as Journals
use Rattle.shard_book.specs.declared.standings.Settled.{Settled}
use Rattle.shard_book.specs.Batches.{kept_before}
use Rattle.shard_book.specs.Books.{BookView}
use Rattle.shard_book.specs.Keepings.{Doubts, Keeps}
use Rattle.shard_book.specs.Settlings.{KeepsDoubt, Settles}
use Rattle.lease_histories.specs.Routes.{route_of}
use Rattle.lease_histories.specs.Entries.{Request, request_of}
use Rattle.lease_house.specs.declared.faults.HouseFault.{HouseFault}
use Rattle.lease_house.specs.declared.faults.HouseFault.TheVariants.{Disk, Memory}
use Rattle.lease_histories.specs.PlainHouses.{lose_after, lost_count, packet_after, packet_reply}
use Rattle.lease_house.specs.SoloHouses.{ChangesBook, HouseView, plain_house}

-- the fault of the external address with this index
abbrev pub fault_at : ℕ → JournalFault → HouseFault
fault_at place Journals.Disk = Disk place
fault_at place Journals.Memory = Memory

-- what a call of the book of this external address told
abbrev pub told_at : {T : Type 0} → ℕ → Result T JournalFault → Result T HouseFault
told_at place (Ok told) = Ok told
told_at place (Err fault) = Err (fault_at place fault)

-- ---- the book of an external address

-- it is settled; where no call was refused nothing changes
pub record SettlesAt {D : Type 0} (tells : Type 0) (moment : D → ℕ)
    (left_since : D → ℕ → List ℕ → Type 0) (may_leave : D → List ℕ → Type 0) (now place : ℕ)
    (old mid : HouseView D) : Type 0 where
  pub book : BookView D
  pub settled_book : BookView D
  pub settled : Settled
  pub settles : Settles tells moment left_since may_leave now book settled_book settled
  pub changes : ChangesBook place book settled_book old mid

-- it keeps records at the moment that is reached
pub record KeepsAt {D : Type 0} (tells : Type 0) (moment : D → ℕ)
    (left_since : D → ℕ → List ℕ → Type 0) (may_leave : D → List ℕ → Type 0) (now place : ℕ)
    (records : BookView D → List Record) (mid new : HouseView D) : Type 0 where
  pub book : BookView D
  pub kept_book : BookView D
  pub keeps : Keeps tells moment left_since may_leave (max now book.last) (records book)
      book kept_book
  pub changes : ChangesBook place book kept_book mid new

-- ---- a line that is refused

-- what is in doubt in the book is so still
pub record KeepsDoubtAt {D : Type 0} (tells : Type 0) (moment : D → ℕ)
    (left_since : D → ℕ → List ℕ → Type 0) (may_leave : D → List ℕ → Type 0) (place : ℕ)
    (old new : HouseView D) : Type 0 where
  pub book : BookView D
  pub read_book : BookView D
  pub keeps : KeepsDoubt tells moment left_since may_leave book read_book
  pub changes : ChangesBook place book read_book old new

-- the records may be in the journal
pub record DoubtsAt {D : Type 0} (tells : Type 0) (moment : D → ℕ)
    (left_since : D → ℕ → List ℕ → Type 0) (may_leave : D → List ℕ → Type 0) (place : ℕ)
    (records : BookView D → List Record) (mid new : HouseView D) (fault : JournalFault)
    : Type 0 where
  pub book : BookView D
  pub unsure_book : BookView D
  pub doubts : Doubts tells moment left_since may_leave (records book) book unsure_book fault
  pub changes : ChangesBook place book unsure_book mid new

-- the settling of its book was refused
abbrev pub IsDoubtKept : {D : Type 0} → (tells : Type 0) → (moment : D → ℕ)
    → (left_since : D → ℕ → List ℕ → Type 0) → (may_leave : D → List ℕ → Type 0)
    → (place : ℕ) → (old new : HouseView D) → HouseFault → Type 0
IsDoubtKept tells moment left_since may_leave place old new fault =
    (cause : JournalFault) × (fault ≡ fault_at place cause)
    × KeepsDoubtAt tells moment left_since may_leave place old new

-- A line that keeps these records was refused: in the settling, or after that. Its records are in
-- the journal or not, and the book's next settling finds out.
abbrev pub IsLineRefused : {D : Type 0} → (tells : Type 0) → (moment : D → ℕ)
    → (left_since : D → ℕ → List ℕ → Type 0) → (may_leave : D → List ℕ → Type 0)
    → (now place : ℕ) → (records : BookView D → List Record) → (old new : HouseView D)
    → HouseFault → Type 0
IsLineRefused tells moment left_since may_leave now place records old new fault =
    (cause : JournalFault) × (fault ≡ fault_at place cause)
    × (KeepsDoubtAt tells moment left_since may_leave place old new
    ⊎ ((mid : HouseView _) × SettlesAt tells moment left_since may_leave now place old mid
    × DoubtsAt tells moment left_since may_leave place records mid new cause))

-- ---- a datagram

-- the record that the book keeps of what is asked
abbrev pub ask_records : {D : Type 0} → ℕ → Ask → BookView D → List Record
ask_records now ask book =
    kept_before (decide book.terms book.state (max now book.last) ask).kept []

abbrev pub request_records : {D : Type 0} → ℕ → Option Request → BookView D → List Record
request_records now None book = []
request_records now (Some request) book = ask_records now request.ask book

abbrev pub packet_records : {D : Type 0} → HouseView D → ℕ → Datagram → BookView D → List Record
packet_records house now from book = request_records now (request_of house.config from) book

-- it is answered, after its book was settled
pub record AnswersPacket {D : Type 0} (tells : Type 0) (moment : D → ℕ)
    (left_since : D → ℕ → List ℕ → Type 0) (may_leave : D → List ℕ → Type 0) (now : ℕ)
    (from : Datagram) (old new : HouseView D) (reply : List ℕ) : Type 0 where
  pub mid : HouseView D
  pub settles : SettlesAt tells moment left_since may_leave now (route_of old.config from) old mid
  pub told : packet_reply (plain_house mid) now from ≡ Some reply
  pub after : plain_house new ≡ packet_after (plain_house mid) now from
  pub keeps : KeepsAt tells moment left_since may_leave now (route_of old.config from)
      (packet_records old now from) mid new

-- nothing is done on a silent datagram, and it is told nothing
pub record IsSilence {D : Type 0} (from : Datagram) (old new : HouseView D) : Type 0 where
  pub silent : request_of old.config from ≡ None
  pub same : new ≡ old

abbrev pub ServesPacket : {D : Type 0} → (tells : Type 0) → (moment : D → ℕ)
    → (left_since : D → ℕ → List ℕ → Type 0) → (may_leave : D → List ℕ → Type 0) → (now : ℕ)
    → Datagram → (old new : HouseView D) → Option (List ℕ) → Type 0
ServesPacket tells moment left_since may_leave now from old new None = IsSilence from old new
ServesPacket tells moment left_since may_leave now from old new (Some reply) =
    AnswersPacket tells moment left_since may_leave now from old new reply

-- Memory was wanting before the book was asked.
pub record IsUnread {D : Type 0} (old new : HouseView D) (fault : HouseFault) : Type 0 where
  pub memory : fault ≡ Memory
  pub same : new ≡ old

-- It was wanting for the reply, when the records were kept.
pub record IsUntold {D : Type 0} (tells : Type 0) (moment : D → ℕ)
    (left_since : D → ℕ → List ℕ → Type 0) (may_leave : D → List ℕ → Type 0) (now : ℕ)
    (from : Datagram) (old new : HouseView D) (fault : HouseFault) : Type 0 where
  pub memory : fault ≡ Memory
  pub reply : List ℕ
  pub answers : AnswersPacket tells moment left_since may_leave now from old new reply

abbrev pub RefusesPacket : {D : Type 0} → (tells : Type 0) → (moment : D → ℕ)
    → (left_since : D → ℕ → List ℕ → Type 0) → (may_leave : D → List ℕ → Type 0) → (now : ℕ)
    → Datagram → (old new : HouseView D) → HouseFault → Type 0
RefusesPacket tells moment left_since may_leave now from old new fault =
    IsUnread old new fault
    -- a silent datagram asks nothing
    ⊎ (IsSome (request_of old.config from)
    × (IsLineRefused tells moment left_since may_leave now (route_of old.config from)
    (packet_records old now from) old new fault
    ⊎ IsUntold tells moment left_since may_leave now from old new fault))

-- ---- a loss

abbrev pub loss_records : {D : Type 0} → ℕ → BookView D → List Record
loss_records now book = record { moment = max now book.last; change = Lose } ∷ []

-- the leases are lost, after the book was settled
pub record LosesAt {D : Type 0} (tells : Type 0) (moment : D → ℕ)
    (left_since : D → ℕ → List ℕ → Type 0) (may_leave : D → List ℕ → Type 0) (now place : ℕ)
    (old new : HouseView D) (count : ℕ) : Type 0 where
  pub mid : HouseView D
  pub settles : SettlesAt tells moment left_since may_leave now place old mid
  pub told : count ≡ lost_count (plain_house mid) place now
  pub after : plain_house new ≡ lose_after (plain_house mid) place now
  pub keeps : KeepsAt tells moment left_since may_leave now place (loss_records now) mid new
