-- What is left of two sides while a journal begins, begins anew, or is compacted.
use Rattle.std.proofs.Common.{◌≡◌, inl, inr, ⊎_elim, ℕ, ◌^◌, ◌<◌, List, [], ◌∷◌, length, get_or, refl, sym, subst, arith}
use Rattle.std.specs.Prelude.{◌⊎◌}
use Rattle.pcp_base.specs.declared.records.Record.{Record}
use Rattle.pcp_base.specs.declared.records.Change.TheVariants.{Start}
use Rattle.pcp_base.proofs.TableLemmas.{Sound-empty}
use Rattle.lease_disk.specs.Images.{Torn}
use Rattle.journal_sides.specs.declared.formats.Format.TheVariants.{Second}
use Rattle.journal_sides.specs.Sides.{AreBatches, IsOpenSide, IsClosedSide}
use Rattle.journal_sides.specs.Journals.{GivesWay, IsStarting}
use Rattle.journal_sides.specs.Shut.{IsShut}
use Rattle.lease_journal.proofs.Begins.{shut_closed, short_torn, open_torn, hidden, gate_opens}

-- the batches of a start
abbrev pub start_at : ℕ → Record
start_at m = record { moment = m; change = Start }

pub first_batches : (m : ℕ) → m < 2 ^ 40 → AreBatches Second 0 0 ((start_at m ∷ []) ∷ [])
first_batches m fits = record {
  width = omega arith;
  next = tt;
  of_side = refl;
  some = omega arith;
  each = (record { values = (record { moment = fits; change = tt }, tt); some = omega arith; few = omega arith; short = omega arith }, tt);
  fit = (record { formed = record { moment = fits; change = tt }; first = refl; later = omega arith; allowed = tt; rested = tt; sound = record { table = Sound-empty; ordered = tt; unowned = tt } }, tt);
}

-- the gate of the side that gives way is written
pub way_torn : (parity generation : ℕ) (octets image : List ℕ) → GivesWay parity octets generation → (length octets < 15) ⊎ (get_or octets 0 0 ≡ 1) → Torn 0 1 octets image → GivesWay parity image generation
way_torn parity generation octets image way (inl short) torn = inl (short_torn octets image short torn)
way_torn parity generation octets image (inl (inl short)) (inr is) torn = inl (short_torn octets image short torn)
way_torn parity generation octets image (inl (inr not)) (inr is) torn = absurd (not is)
way_torn parity generation octets image (inr (format, h, batches, side, less)) (inr is) torn =
    let some : 0 < length octets = has_gate octets is in
    ⊎_elim (λ (same : image ≡ octets). inr (format, h, batches, subst (λ (l : List ℕ). IsOpenSide format parity l h batches) (sym same) side, less)) (λ (shut : IsShut image). inl (shut_closed image shut)) (open_torn octets image some is torn)
  where
    has_gate : (l : List ℕ) → get_or l 0 0 ≡ 1 → 0 < length l
    has_gate [] e = absurd (omega (arith, e))
    has_gate (x ∷ l) e = omega arith

-- while the gate of a start is written, the other side being closed
pub starting : (m : ℕ) (fits : m < 2 ^ 40) (other image behind : List ℕ) (gate : ℕ) → IsClosedSide other → Torn 0 1 (hidden 0 0 ((start_at m ∷ []) ∷ []) (first_batches m fits) behind gate) image → IsStarting m image other
starting m fits other image behind gate closed torn =
    ⊎_elim
    (λ (shut : IsShut image). inl (shut_closed image shut, closed))
    (λ (side : IsOpenSide Second 0 image 0 ((start_at m ∷ []) ∷ [])). inr (Second, start_at m ∷ [], inl (record { generation = 0; batches = (start_at m ∷ []) ∷ []; is = side; holds = refl; other = inl closed }), refl))
    (gate_opens 0 0 ((start_at m ∷ []) ∷ []) (first_batches m fits) behind gate image torn)
