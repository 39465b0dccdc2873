-- What is left of two sides while one takes over from the other.
use Rattle.std.proofs.Common.{◌≡◌, inl, inr, ℕ, ◌+◌, ◌-◌, ◌^◌, ◌<◌, ◌%◌, List, [], ◌∷◌, length, get_or, take, sym, ◌∙◌, ap, subst, arith}
use Rattle.pcp_base.specs.declared.records.Record.{Record}
use Rattle.pcp_base.specs.States.{State, empty_state}
use Rattle.pcp_base.specs.Apply.{state_of}
use Rattle.pcp_base.specs.Fits.{AllFit}
use Rattle.lease_disk.specs.Contents.{after_write}
use Rattle.lease_disk.specs.declared.disks.DiskPair.{DiskPair}
use Rattle.lease_disk.specs.Images.{CutOrNot, Torn}
use Rattle.journal_sides.specs.declared.formats.Format.TheVariants.{Second}
use Rattle.journal_sides.specs.declared.sides.Side.{Side}
use Rattle.journal_sides.specs.declared.sides.Side.TheVariants.{A, B}
use Rattle.journal_sides.specs.declared.walks.Standing.{Standing}
use Rattle.lease_journal.specs.Beginnings.{IsBegun, MayBegin}
use Rattle.lease_journal.specs.Compactions.{TakesOver}
use Rattle.journal_sides.specs.Journals.{GivesWay, StandsFor}
use Rattle.journal_sides.specs.Judging.{IsStanding}
use Rattle.journal_sides.specs.Settled.{StandsBy, IsSettledBy}
use Rattle.journal_sides.specs.Shut.{IsHidden}
use Rattle.journal_sides.specs.Sides.{AreBatches, IsClosedSide, IsOpenSide}
use Rattle.journal_sides.specs.Writes.{ChangesSide, of_side, other, side_parity}
use Rattle.lease_journal.proofs.Begins.{cut_closed}
use Rattle.lease_journal.proofs.PairLaws.{way_torn}
use Rattle.lease_journal.proofs.PrepareLaws.{shut_written}
use Rattle.lease_journal.proofs.StandingLaws.{counted, stands_for}
use Rattle.lease_journal.proofs.StartLaws.{are_hidden, hidden_place}

-- the other side of the other one
back : (side : Side) (a b : List ℕ) (g : ℕ) → GivesWay (side_parity (other (other side))) (of_side (other (other side)) a b) g → GivesWay (side_parity side) (of_side side a b) g
back A a b g way = way
back B a b g way = way

forth : (side : Side) (a b : List ℕ) (g : ℕ) → GivesWay (side_parity side) (of_side side a b) g → GivesWay (side_parity (other (other side))) (of_side (other (other side)) a b) g
forth A a b g way = way
forth B a b g way = way

other_same : (side : Side) (a b x y : List ℕ) → of_side (other (other side)) x y ≡ of_side (other (other side)) a b → of_side side x y ≡ of_side side a b
other_same A a b x y same = same
other_same B a b x y same = same

-- the generation after that of a side is one of the other
pub next_parity : (side : Side) (g : ℕ) → g % 2 ≡ side_parity side → (g + 1) % 2 ≡ side_parity (other side)
next_parity A g is = omega (arith, is)
next_parity B g is = omega (arith, is)

-- the side that counts has an open gate
pub open_gate : (parity : ℕ) (octets : List ℕ) (standing : Standing) (s : State) → IsStanding parity octets standing s → get_or octets 0 0 ≡ 1
open_gate parity octets standing s is = ap (λ (l : List ℕ). get_or l 0 0) is.side.text

module _ (side : Side) (standing : Standing) (s : State) (c d : List ℕ) (stands : StandsBy (other side) standing s c d) where
  -- the other side counts as long as this one gives way
  retired : (x y : List ℕ) → of_side (other side) x y ≡ of_side (other side) c d → GivesWay (side_parity side) (of_side side x y) standing.generation → StandsBy (other side) standing s x y
  retired x y same way = record {
    counts = subst (λ (l : List ℕ). IsStanding (side_parity (other side)) l standing s) (sym same) stands.counts;
    gives_way = forth side x y standing.generation way;
  }

  pub retires_torn : get_or (of_side side c d) 0 0 ≡ 1 → (x y : List ℕ) → ChangesSide side (Torn 0 1) c d x y → StandsFor s x y
  retires_torn gate x y ch =
      stands_for (other side) standing s x y (retired x y ch.unchanged (way_torn (side_parity side) standing.generation (of_side side c d) (of_side side x y) (back side c d standing.generation stands.gives_way) (inr gate) ch.changed))

  pub retired_shut : (e f : List ℕ) → ChangesSide side (λ old new. new ≡ after_write old 0 (0 ∷ [])) c d e f → StandsBy (other side) standing s e f
  retired_shut e f wrote = retired e f wrote.unchanged (inl (shut_written side c d e f wrote).changed)

  module _ (closed : IsClosedSide (of_side side c d)) where
    pub retires_cut : (x y : List ℕ) → ChangesSide side (CutOrNot 1) c d x y → StandsFor s x y
    retires_cut x y ch = stands_for (other side) standing s x y (retired x y ch.unchanged (inl (cut_closed (of_side side c d) (of_side side x y) closed ch.changed)))

    pub retired_cut : (x y : List ℕ) → ChangesSide side (λ old new. new ≡ take 1 old) c d x y → StandsBy (other side) standing s x y
    retired_cut x y cut = retired x y cut.unchanged (inl (cut_closed (of_side side c d) (of_side side x y) closed (inr cut.changed)))

-- the gate is left
pub cut_gate : (side : Side) (a b c d x y : List ℕ) → ChangesSide side (λ old new. new ≡ after_write old 0 (0 ∷ [])) a b c d → ChangesSide side (λ old new. new ≡ take 1 old) c d x y → of_side side x y ≡ 0 ∷ []
cut_gate side a b c d x y wrote cut = cut.changed ∙ ap (take 1) wrote.changed

module _ (side : Side) (standing : Standing) (s : State) (a b : List ℕ) (stands : StandsBy side standing s a b) (generation : ℕ) (text : List ℕ) (over : TakesOver side standing.generation generation s text) where
  -- this side gives way to the new one
  older : (x y : List ℕ) → of_side side x y ≡ of_side side a b → GivesWay (side_parity side) (of_side side x y) generation
  older x y same = inr (standing.format, standing.generation, stands.counts.batches, subst (λ (l : List ℕ). IsOpenSide standing.format (side_parity side) l standing.generation stands.counts.batches) (sym same) stands.counts.side, over.greater)

  -- this side counts as long as the other gives way
  still : (x y : List ℕ) → of_side side x y ≡ of_side side a b → GivesWay (side_parity (other side)) (of_side (other side) x y) standing.generation → StandsFor s x y
  still x y same way = stands_for side standing s x y (record { counts = subst (λ (l : List ℕ). IsStanding (side_parity side) l standing s) (sym same) stands.counts; gives_way = way })

  begins_other : (x y : List ℕ) → ChangesSide (other side) (MayBegin (side_parity (other side)) generation over.batches) a b x y → StandsFor s x y
  begins_other x y ch = begins ch.changed
    where
      same : of_side side x y ≡ of_side side a b
      same = other_same side a b x y ch.unchanged

      begins : MayBegin (side_parity (other side)) generation over.batches (of_side (other side) a b) (of_side (other side) x y) → StandsFor s x y
      begins (inl is) = still x y same (subst (λ (l : List ℕ). GivesWay (side_parity (other side)) l standing.generation) (sym is) stands.gives_way)
      begins (inr (inl closed)) = still x y same (inl closed)
      begins (inr (inr is)) = counted (other side) Second x y generation over.batches s is (forth side x y generation (older x y same)) over.stands

  module _ (new : Side) (is : new ≡ other side) where
    pub are_over : AreBatches Second (side_parity new) generation over.batches
    are_over = subst (λ (t : Side). AreBatches Second (side_parity t) generation over.batches) (sym is) over.are

    pub begins_over : (x y : List ℕ) → ChangesSide new (MayBegin (side_parity new) generation over.batches) a b x y → StandsFor s x y
    begins_over x y ch = begins_other x y (subst (λ (t : Side). ChangesSide t (MayBegin (side_parity t) generation over.batches) a b x y) is ch)

    module _ (size : ℕ) (x y : List ℕ) (begun : IsBegun new size generation over.batches a b x y) where
      has_begun : IsBegun (other side) size generation over.batches a b x y
      has_begun = subst (λ (t : Side). IsBegun t size generation over.batches a b x y) is begun

      same_side : of_side side x y ≡ of_side side a b
      same_side = other_same side a b x y has_begun.unchanged

      pub begun_over : StandsBy (other side) (record { format = Second; generation = generation; end = length text; length = size }) s x y
      begun_over = record {
        counts = record { batches = over.batches; side = has_begun.opened; place = hidden_place generation over.batches text over.text; long = has_begun.long; stands = over.stands };
        gives_way = forth side x y generation (older x y same_side);
      }

      pub begun_gate : get_or (of_side side x y) 0 0 ≡ 1
      begun_gate = ap (λ (l : List ℕ). get_or l 0 0) same_side ∙ open_gate (side_parity side) (of_side side a b) standing s stands.counts

-- records that stand for the same, with the next generation
abbrev pub next_over : (side : Side) (standing : Standing) (s : State) (a b : List ℕ) (records : List Record) (text octets : List ℕ) → StandsBy side standing s a b → standing.generation < 2 ^ 64 - 1 → AllFit empty_state records → state_of records ≡ s → IsHidden (standing.generation + 1) records text → octets ≡ text
    → TakesOver side standing.generation (standing.generation + 1) s octets
next_over side standing s a b records text octets stands next fit same is whole = record {
  batches = is.batches;
  are = are_hidden (side_parity (other side)) (standing.generation + 1) records text is (omega (arith, next)) (next_parity side standing.generation stands.counts.side.contents.of_side) fit;
  greater = omega arith;
  stands = ap state_of is.holds ∙ same;
  text = whole ∙ is.text;
}

-- as it is told
pub settled_at : {D : Type 0} (seen : D → List ℕ) (may_leave : D → List ℕ → Type 0) (side new : Side) → new ≡ other side → (generation end place size : ℕ) → place ≡ end → (pair : DiskPair D) (s : State)
    → IsSettledBy seen may_leave (other side) (record { format = Second; generation = generation; end = end; length = size }) pair s → IsSettledBy seen may_leave new (record { format = Second; generation = generation; end = place; length = size }) pair s
settled_at seen may_leave side new is generation end place size at pair s settled =
    subst (λ (t : Side). IsSettledBy seen may_leave t (record { format = Second; generation = generation; end = place; length = size }) pair s) (sym is)
    (subst (λ (n : ℕ). IsSettledBy seen may_leave (other side) (record { format = Second; generation = generation; end = n; length = size }) pair s) (sym at) settled)
