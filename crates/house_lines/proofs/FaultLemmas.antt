-- The counts of faults over a call.
use Rattle.std.proofs.Common.{◌≡◌, ◌∙◌, ℕ, ◌≤◌, ◌==◌, Bool, true, false, if◌then◌else◌, List, length, Option, Some, None, Result, Err, refl, sym, ap, subst, inl, inr, arith}
use Rattle.std.specs.Prelude.{slice_get}
use Rattle.pcp_base.specs.declared.datagrams.Datagram.{Datagram}
use Rattle.pcp_base.specs.declared.records.Record.{Record}
use Rattle.lease_disk.specs.declared.disks.DiskPair.{DiskPair}
use Rattle.lease_disk.specs.Pairs.{PairHasCause}
use Rattle.journal_sides.specs.declared.errors.JournalFault.{JournalFault}
use Rattle.journal_sides.specs.declared.errors.JournalFault.TheVariants as Journals
use Rattle.script_player.specs.Ways.{HasFault}
use Rattle.script_player.specs.declared.answerers.AnswerFault.TheVariants as Told
use Rattle.shard_book.specs.Books.{BookView}
use Rattle.lease_house.specs.declared.faults.HouseFault.{HouseFault}
use Rattle.lease_house.specs.declared.faults.HouseFault.TheVariants.{Disk, Memory}
use Rattle.lease_house.specs.SoloCalls.{IsLineRefused, RefusesPacket, fault_at}
use Rattle.lease_house.specs.SoloHouses.{HaveCauses, HouseView}
use Rattle.house_lines.specs.Answers.{fault_told}
use Rattle.house_lines.specs.DiskFaults.{disk_faults, pair_faults}
use Rattle.house_lines.specs.HouseWays.{also-there}

-- one of two numbers, or 0, is no greater than one of two others
picked-le : (first second : Bool) (a b c d : ℕ) → a ≤ c → b ≤ d → (if first then a else if second then b else 0) ≤ (if first then c else if second then d else 0)
picked-le true second a b c d h k = h
picked-le false true a b c d h k = k
picked-le false false a b c d h k = omega arith

module _ {D : Type 0} (faults : D → ℕ) where
  -- no count of a pair falls
  pair-later : (old new : DiskPair D) (fails : Type 0) → PairHasCause faults old new fails → (disk : ℕ) → pair_faults faults old disk ≤ pair_faults faults new disk
  pair-later old new fails cause disk =
      picked-le (disk == 0) (disk == 1) (faults old.a) (faults old.b) (faults new.a) (faults new.b) cause.later_a cause.later_b

  pub house-later : (old new : HouseView D) (fails : ℕ → Type 0) → HaveCauses faults old new fails → length new.books ≡ length old.books →
      (place disk : ℕ) → disk_faults faults old place disk ≤ disk_faults faults new place disk
  house-later old new fails causes same place disk = go (slice_get old.books place) refl
    where
      get-both : (b : BookView D) → slice_get old.books place ≡ Some b → (c : BookView D) × (slice_get new.books place ≡ Some c)
      get-both b there = also-there new.books old.books place b (sym same) there

      go : (b : Option (BookView D)) → slice_get old.books place ≡ b → disk_faults faults old place disk ≤ disk_faults faults new place disk
      go None none = rw none (omega arith)
      go (Some b) there =
          let c = get-both b there in
          rw (there, c.1) (pair-later b.journal.pair c.0.journal.pair (fails place) (causes place b c.0 there c.1) disk)

  -- where a call told a fault of a pair one of its counts has risen
  pair-fault : (old new : DiskPair D) (fails : Type 0) → PairHasCause faults old new fails → fails → HasFault (pair_faults faults old) (pair_faults faults new)
  pair-fault old new fails cause failed = elim (cause.risen failed) [
    | inl a ↦ (0, a)
    | inr b ↦ (1, b)
  ]

  pub house-fault : (old new : HouseView D) (fails : ℕ → Type 0) → HaveCauses faults old new fails → length new.books ≡ length old.books →
      (place : ℕ) (b : BookView D) → slice_get old.books place ≡ Some b → fails place → HasFault (disk_faults faults old place) (disk_faults faults new place)
  house-fault old new fails causes same place b there failed =
      let c = also-there new.books old.books place b (sym same) there in
      let at : HasFault (pair_faults faults b.journal.pair) (pair_faults faults c.0.journal.pair) = pair-fault b.journal.pair c.0.journal.pair (fails place) (causes place b c.0 there c.1) failed in
      (at.0, rw (there, c.1) at.1)

-- ---- of which pair a fault is told

told-disk : (fault : HouseFault) (place : ℕ) → fault_told fault ≡ Told.Disk place → fault ≡ Disk place
told-disk (Disk p) place same = let at : p ≡ place = cc in ap Disk at
told-disk Memory place same = absurd cc

at-disk : (p place : ℕ) (cause : JournalFault) → fault_at p cause ≡ Disk place → p ≡ place
at-disk p place Journals.Disk same = cc
at-disk p place Journals.Memory same = absurd cc

module _ {D : Type 0} (tells : Type 0) (moment : D → ℕ) (left_since : D → ℕ → List ℕ → Type 0) (may_leave : D → List ℕ → Type 0) (old new : HouseView D) where
  line-place : (now p : ℕ) (records : BookView D → List Record) (fault : HouseFault) → IsLineRefused tells moment left_since may_leave now p records old new fault →
      (place : ℕ) → fault ≡ Disk place → (b : BookView D) × (slice_get old.books place ≡ Some b)
  line-place now p records fault (cause, is, inl k) place same =
      let at = at-disk p place cause (sym is ∙ same) in
      (k.book, subst (λ q. slice_get old.books q ≡ Some k.book) at k.changes.there)
  line-place now p records fault (cause, is, inr (mid, settles, d)) place same =
      let at = at-disk p place cause (sym is ∙ same) in
      (settles.book, subst (λ q. slice_get old.books q ≡ Some settles.book) at settles.changes.there)

  packet-place : (now : ℕ) (from : Datagram) (fault : HouseFault) → RefusesPacket tells moment left_since may_leave now from old new fault →
      (place : ℕ) → fault ≡ Disk place → (b : BookView D) × (slice_get old.books place ≡ Some b)
  packet-place now from fault (inl unread) place same = absurd (let bad : Memory ≡ Disk place = sym unread.memory ∙ same in cc)
  packet-place now from fault (inr (asks, inl refused)) place same = line-place now _ _ fault refused place same
  packet-place now from fault (inr (asks, inr untold)) place same = absurd (let bad : Memory ≡ Disk place = sym untold.memory ∙ same in cc)

  module _ (faults : D → ℕ) (same : length new.books ≡ length old.books) where
    pub line-fault : {T : Type 0} (now p : ℕ) (records : BookView D → List Record) (fault : HouseFault) (result : Result T HouseFault) → result ≡ Err fault →
        IsLineRefused tells moment left_since may_leave now p records old new fault → HaveCauses faults old new (λ place. result ≡ Err (Disk place)) →
        (place : ℕ) → fault_told fault ≡ Told.Disk place → HasFault (disk_faults faults old place) (disk_faults faults new place)
    line-fault now p records fault result is refused causes place told =
        let disk = told-disk fault place told in
        let b = line-place now p records fault refused place disk in
        house-fault faults old new (λ place. result ≡ Err (Disk place)) causes same place b.0 b.1 (is ∙ ap Err disk)

    pub packet-fault : {T : Type 0} (now : ℕ) (from : Datagram) (fault : HouseFault) (result : Result T HouseFault) → result ≡ Err fault →
        RefusesPacket tells moment left_since may_leave now from old new fault → HaveCauses faults old new (λ place. result ≡ Err (Disk place)) →
        (place : ℕ) → fault_told fault ≡ Told.Disk place → HasFault (disk_faults faults old place) (disk_faults faults new place)
    packet-fault now from fault result is refused causes place told =
        let disk = told-disk fault place told in
        let b = packet-place now from fault refused place disk in
        house-fault faults old new (λ place. result ≡ Err (Disk place)) causes same place b.0 b.1 (is ∙ ap Err disk)
