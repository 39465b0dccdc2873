-- What is left of a side while it begins anew: first its gate is shut, then all behind the gate is written, then the gate is opened.
use Rattle.std.proofs.Common.{◌≡◌, ◌≢◌, inl, inr, ℕ, ◌+◌, ◌<◌, min, List, [], ◌∷◌, ◌++◌, length, get_or, take, drop, refl, sym, ◌∙◌, ap, subst, arith, append_assoc, length-take}
use Rattle.std.specs.Prelude.{◌⊎◌}
use Rattle.std.proofs.lemmas.Bool.{cases_eq}
use Rattle.std.proofs.lemmas.List.{drop_more, get_or-take}
use Rattle.pcp_base.specs.declared.records.Record.{Record}
use Rattle.lease_disk.specs.Contents.{after_write}
use Rattle.lease_disk.specs.Images.{Torn, CutOrNot}
use Rattle.lease_disk.proofs.Within.{after_write_within}
use Rattle.journal_sides.specs.declared.formats.Format.TheVariants.{Second}
use Rattle.journal_sides.specs.Sides.{AreBatches, IsOpenSide, IsClosedSide}
use Rattle.journal_sides.specs.Shut.{IsShut, hidden_text}

pub shut_closed : (octets : List ℕ) → IsShut octets → IsClosedSide octets
shut_closed octets shut = inr shut.gate

-- the first octet stays where all that is written stands behind it
pub first_same : (place n : ℕ) (old new : List ℕ) → 0 < place → 0 < length old → Torn place n old new → get_or new 0 0 ≡ get_or old 0 0
first_same place n old new behind some torn =
    let m = min place (length old) in
    let at_least : 0 < m = omega arith in
    sym (get_or-take m new 0 0 at_least) ∙ ap (λ (l : List ℕ). get_or l 0 0) torn.before ∙ get_or-take place old 0 0 behind

-- so a shut side stays shut, whatever is written behind its gate, and in part too
pub shut_torn : (place n : ℕ) (old new : List ℕ) → 0 < place → IsShut old → Torn place n old new → IsShut new
shut_torn place n old new behind shut torn =
    record { some = omega (arith, shut.some, torn.no_shorter); gate = λ is. shut.gate (sym (first_same place n old new behind shut.some torn) ∙ is) }

-- the write of the gate of a side that is short, or has no octets
pub short_torn : (old new : List ℕ) → length old < 15 → Torn 0 1 old new → IsClosedSide new
short_torn old new short torn = inl (omega (arith, torn.no_longer))

-- the write of one octet at 0 leaves the rest
pub first_torn : (old new : List ℕ) → 0 < length old → Torn 0 1 old new → new ≡ get_or new 0 0 ∷ drop 1 old
first_torn old new some torn =
    drop_more new 0 0 (omega (arith, torn.no_shorter)) ∙ ap (λ (l : List ℕ). get_or new 0 0 ∷ l) torn.after

-- the write of the gate of an open side: it stays as it was, or is shut
pub open_torn : (old new : List ℕ) → 0 < length old → get_or old 0 0 ≡ 1 → Torn 0 1 old new → (new ≡ old) ⊎ IsShut new
open_torn old new some is torn =
    let whole = first_torn old new some torn in
    let old_whole : old ≡ get_or old 0 0 ∷ drop 1 old = drop_more old 0 0 some in
    elim (cases_eq (get_or new 0 0) 1) [
      | inl one ↦ inl (whole ∙ ap (λ (g : ℕ). g ∷ drop 1 old) (one ∙ sym is) ∙ sym old_whole)
      | inr not ↦ inr (record { some = omega (arith, torn.no_shorter, some); gate = not })
    ]

pub written_first : (old : List ℕ) (gate : ℕ) → after_write old 0 (gate ∷ []) ≡ gate ∷ drop 1 old
written_first old gate = refl

-- a side that is cut to one octet is closed
pub cut_closed : (old new : List ℕ) → IsClosedSide old → CutOrNot 1 old new → IsClosedSide new
cut_closed old new closed (inl same) = subst IsClosedSide (sym same) closed
cut_closed old new closed (inr cut) = inl (omega (arith, ap length cut, length-take 1 old))

-- a new side, all of it written but the gate
module _ (parity generation : ℕ) (batches : List (List Record)) (are : AreBatches Second parity generation batches) (behind : List ℕ) where
  abbrev pub hidden : ℕ → List ℕ
  hidden gate = gate ∷ (hidden_text generation batches ++ 0 ∷ behind)

  pub hidden_open : (gate : ℕ) → gate ≡ 1 → IsOpenSide Second parity (hidden gate) generation batches
  hidden_open gate is = record {
    contents = are;
    gate = 0;
    behind = behind;
    closed = omega arith;
    text = ap hidden is;
  }

  pub hidden_shut : (gate : ℕ) → gate ≢ 1 → IsShut (hidden gate)
  hidden_shut gate not = record { some = omega arith; gate = not }

  -- each outcome of the write of the gate: it is open, or shut
  pub gate_opens : (gate : ℕ) (image : List ℕ) → Torn 0 1 (hidden gate) image → IsShut image ⊎ IsOpenSide Second parity image generation batches
  gate_opens gate image torn =
      let whole : image ≡ hidden (get_or image 0 0) = first_torn (hidden gate) image (omega arith) torn in
      elim (cases_eq (get_or image 0 0) 1) [
        | inl is ↦ inr (subst (λ (l : List ℕ). IsOpenSide Second parity l generation batches) (sym whole) (hidden_open (get_or image 0 0) is))
        | inr not ↦ inl (record { some = omega (arith, torn.no_shorter); gate = not })
      ]

  pub gate_is_open : (gate : ℕ) → IsOpenSide Second parity (after_write (hidden gate) 0 (1 ∷ [])) generation batches
  gate_is_open gate = hidden_open 1 refl

-- the write of all that stands behind the gate
pub hidden_written : (generation : ℕ) (batches : List (List Record)) (octets : List ℕ) → 0 < length octets
    → after_write octets 1 (hidden_text generation batches ++ 0 ∷ []) ≡ get_or octets 0 0 ∷ (hidden_text generation batches ++ 0 ∷ drop (1 + length (hidden_text generation batches ++ 0 ∷ [])) octets)
hidden_written generation batches octets some =
    let piece = hidden_text generation batches ++ 0 ∷ [] in
    let rest = drop (1 + length piece) octets in
    let first : take 1 octets ≡ get_or octets 0 0 ∷ [] = ap (λ (l : List ℕ). take 1 l) (drop_more octets 0 0 some) in
    after_write_within octets 1 piece (omega (arith, some))
    ∙ ap (λ (l : List ℕ). l ++ piece ++ rest) first
    ∙ ap (λ (l : List ℕ). get_or octets 0 0 ∷ l) (append_assoc (hidden_text generation batches) (0 ∷ []) rest)
