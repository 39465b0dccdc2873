-- What a journal stands for where one side counts.
use Rattle.std.proofs.Common.{◌≡◌, inl, inr, ℕ, ◌+◌, ◌≤◌, List, [], ◌∷◌, ◌++◌, length, refl, sym, subst, ap, arith, length-append}
use Rattle.pcp_base.specs.declared.records.Record.{Record}
use Rattle.pcp_base.specs.States.{State}
use Rattle.pcp_base.specs.Apply.{apply, apply_all}
use Rattle.journal_sides.specs.Formats.{state_by}
use Rattle.journal_sides.specs.declared.formats.Format.{Format}
use Rattle.journal_sides.specs.Frames.{records_of}
use Rattle.journal_sides.specs.Judging.{IsStanding}
use Rattle.journal_sides.specs.Sides.{IsOpenSide, side_text}
use Rattle.journal_sides.specs.Journals.{GivesWay, StandsFor, StandsForWithOrWithout}
use Rattle.journal_sides.specs.Settled.{StandsBy, IsSettledBy}
use Rattle.journal_sides.specs.declared.sides.Side.{Side}
use Rattle.journal_sides.specs.declared.sides.Side.TheVariants.{A, B}
use Rattle.journal_sides.specs.declared.walks.Standing.{Standing}
use Rattle.journal_sides.specs.Writes.{of_side, other, side_parity}
use Rattle.lease_disk.specs.declared.disks.DiskPair.{DiskPair}
use Rattle.lease_disk.specs.Pairs.{HoldsNow, PairLeavesOnly}
use Rattle.lease_disk.proofs.PairLemmas.{pair_started}

pub apply_all-append : (s : State) (first second : List Record) → apply_all s (first ++ second) ≡ apply_all (apply_all s first) second
apply_all-append s [] second = refl
apply_all-append s (r ∷ first) second = apply_all-append (apply s r) first second

pub counts_a : (format : Format) (a b : List ℕ) (g : ℕ) (batches : List (List Record)) → IsOpenSide format 0 a g batches → GivesWay 1 b g → StandsFor (state_by format (records_of batches)) a b
counts_a format a b g batches side way = (format, records_of batches, inl (record { generation = g; batches = batches; is = side; holds = refl; other = way }), refl)

pub counts_b : (format : Format) (a b : List ℕ) (g : ℕ) (batches : List (List Record)) → IsOpenSide format 1 b g batches → GivesWay 0 a g → StandsFor (state_by format (records_of batches)) a b
counts_b format a b g batches side way = (format, records_of batches, inr (record { generation = g; batches = batches; is = side; holds = refl; other = way }), refl)

-- whichever side counts
pub counted : (side : Side) (format : Format) (a b : List ℕ) (g : ℕ) (batches : List (List Record)) (s : State) → IsOpenSide format (side_parity side) (of_side side a b) g batches → GivesWay (side_parity (other side)) (of_side (other side) a b) g → state_by format (records_of batches) ≡ s → StandsFor s a b
counted A format a b g batches s side way is = subst (λ (t : State). StandsFor t a b) is (counts_a format a b g batches side way)
counted B format a b g batches s side way is = subst (λ (t : State). StandsFor t a b) is (counts_b format a b g batches side way)

pub stands_for : (side : Side) (standing : Standing) (s : State) (a b : List ℕ) → StandsBy side standing s a b → StandsFor s a b
stands_for side standing s a b is = counted side standing.format a b standing.generation is.counts.batches s is.counts.side is.gives_way is.counts.stands

-- while nothing is written, each image of both sides stands for the same
pub settled_holds : {D : Type 0} (seen : D → List ℕ) (may_leave : D → List ℕ → Type 0) (side : Side) (standing : Standing) (pair : DiskPair D) (s : State) → IsSettledBy seen may_leave side standing pair s → HoldsNow may_leave (StandsFor s) pair
settled_holds seen may_leave side standing pair s is x y left_a left_b =
    let here = stands_for side standing s (seen pair.a) (seen pair.b) is.sides in
    subst (λ (l : List ℕ). StandsFor s l y) (sym (is.durable.a x left_a)) (subst (λ (l : List ℕ). StandsFor s (seen pair.a) l) (sym (is.durable.b y left_b)) here)

pub settled_still : {D : Type 0} (seen : D → List ℕ) (may_leave : D → List ℕ → Type 0) (moment : D → ℕ) (left_since : D → ℕ → List ℕ → Type 0) (side : Side) (standing : Standing) (pair : DiskPair D) (s : State) (batch : List Record) → IsSettledBy seen may_leave side standing pair s
    → PairLeavesOnly moment left_since may_leave pair pair (StandsForWithOrWithout s batch)
settled_still seen may_leave moment left_since side standing pair s batch is =
    pair_started moment left_since may_leave pair (StandsForWithOrWithout s batch) (λ x y left_a left_b. inl (settled_holds seen may_leave side standing pair s is x y left_a left_b))

-- the closed gate that ends the walk is one of the side's octets
pub ends_within : (parity : ℕ) (octets : List ℕ) (standing : Standing) (s : State) → IsStanding parity octets standing s → standing.end + 1 ≤ standing.length
ends_within parity octets standing s is =
    let text = side_text standing.format standing.generation is.batches in
    omega (arith, is.place, is.long, ap length is.side.text, length-append text (is.side.gate ∷ is.side.behind))
