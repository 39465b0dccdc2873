-- The counts of faults of a house's disks, and those of its pairs.
use Rattle.std.proofs.Common.{◌≡◌, ◌≤◌, ◌⊎◌, ◌==◌, Bool, true, false, cond, ℕ, zero, suc, List, [], ◌∷◌, length, map, refl, inl, inr, arith}
use Rattle.std.specs.List.{slice_get}
use Rattle.std.specs.Option.{option_map_or}
use Rattle.pcp_io.specs.Faults.{HasRisen}
use Rattle.script_player.specs.Ways.{HasFault}
use Rattle.shard_book.specs.Books.{BookView}
use Rattle.lease_house.specs.SoloHouses.{HouseView}
use Rattle.house_lines.specs.DiskFaults.{disk_faults, pair_faults}
use Rattle.journal_dump.specs.Dumps.{HasPairFault}
use Rattle.pcp_server.specs.Opened.{pairs_of}
use Rattle.pcp_server.specs.Outsides.{HaveNotFallen}
use Rattle.pcp_server.proofs.PairLemmas.{fault-join, none_fell, none_fell-join}

abbrev counts : {D : Type 0} → (D → ℕ) → List (BookView D) → (place disk : ℕ) → ℕ
counts faults bs place disk = option_map_or (λ b. pair_faults faults b.journal.pair disk) (slice_get bs place) 0

books-later : {D : Type 0} (faults : D → ℕ) (bs cs : List (BookView D)) → length cs ≡ length bs →
    ((place disk : ℕ) → counts faults bs place disk ≤ counts faults cs place disk) → HaveNotFallen faults (map (λ b. b.journal.pair) bs) (map (λ b. b.journal.pair) cs)
books-later faults [] [] same h = tt
books-later faults [] (c ∷ cs) same h = absurd cc
books-later faults (b ∷ bs) [] same h = absurd cc
books-later faults (b ∷ bs) (c ∷ cs) same h = (
  record { later_a = h 0 0; later_b = h 0 1; risen = λ e. absurd e },
  books-later faults bs cs (let s : suc (length cs) ≡ suc (length bs) = same in omega (arith, s)) (λ place disk. h (suc place) disk),
)

-- a disk is one of the two sides
side-risen : (a b c d : ℕ) (first second : Bool) → HasRisen (cond first a (cond second b 0)) (cond first c (cond second d 0)) → HasRisen a c ⊎ HasRisen b d
side-risen a b c d true second h = inl h
side-risen a b c d false true h = inr h
side-risen a b c d false false (inl h) = absurd (omega (arith, h))
side-risen a b c d false false (inr h) = absurd (omega (arith, h))

books-fault : {D : Type 0} (faults : D → ℕ) (bs cs : List (BookView D)) (place disk : ℕ) → length cs ≡ length bs →
    HasRisen (counts faults bs place disk) (counts faults cs place disk) → HasPairFault faults (map (λ b. b.journal.pair) bs) (map (λ b. b.journal.pair) cs) place
books-fault faults [] [] place disk same (inl h) = absurd (omega (arith, h))
books-fault faults [] [] place disk same (inr h) = absurd (omega (arith, h))
books-fault faults [] (c ∷ cs) place disk same h = absurd cc
books-fault faults (b ∷ bs) [] place disk same h = absurd cc
books-fault faults (b ∷ bs) (c ∷ cs) zero disk same h = record {
  before = b.journal.pair;
  after = c.journal.pair;
  was = refl;
  is = refl;
  risen = side-risen (faults b.journal.pair.a) (faults b.journal.pair.b) (faults c.journal.pair.a) (faults c.journal.pair.b) (disk == 0) (disk == 1) h;
}
books-fault faults (b ∷ bs) (c ∷ cs) (suc place) disk same h =
    let behind = books-fault faults bs cs place disk (let s : suc (length cs) ≡ suc (length bs) = same in omega (arith, s)) h in
    record { before = behind.before; after = behind.after; was = behind.was; is = behind.is; risen = behind.risen }

-- ---- of all pairs

pub house-later : {D : Type 0} (faults : D → ℕ) (old new : HouseView D) → length new.books ≡ length old.books → new.spare ≡ old.spare →
    ((place disk : ℕ) → disk_faults faults old place disk ≤ disk_faults faults new place disk) → HaveNotFallen faults (pairs_of old) (pairs_of new)
house-later faults old new count spare h =
    none_fell-join faults (map (λ b. b.journal.pair) old.books) (map (λ b. b.journal.pair) new.books) old.spare new.spare
    (books-later faults old.books new.books count h) (rw spare (none_fell faults old.spare))

pub house-fault : {D : Type 0} (faults : D → ℕ) (old new : HouseView D) (place : ℕ) → length new.books ≡ length old.books →
    HasFault (disk_faults faults old place) (disk_faults faults new place) → HasPairFault faults (pairs_of old) (pairs_of new) place
house-fault faults old new place count (disk, h) =
    fault-join faults (map (λ b. b.journal.pair) old.books) (map (λ b. b.journal.pair) new.books) old.spare new.spare place
    (books-fault faults old.books new.books place disk count h)
