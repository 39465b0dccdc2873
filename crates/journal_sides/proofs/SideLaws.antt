-- What is left of an open side by the writes of an append.
use Rattle.std.proofs.Common.{◌≡◌, ◌≢◌, inl, inr, ℕ, ◌+◌, ◌<◌, List, [], ◌∷◌, ◌++◌, length, get_or, take, drop, refl, sym, ◌∙◌, ap, subst, arith, append_assoc, length-append, take-append-drop}
use Rattle.std.specs.Prelude.{◌⊎◌}
use Rattle.std.proofs.lemmas.Bool.{cases_eq}
use Rattle.std.proofs.lemmas.List.{take_at, drop_at, drop_more, length_push}
use Rattle.pcp_base.specs.declared.records.Record.{Record}
use Rattle.pcp_base.specs.States.{empty_state}
use Rattle.pcp_base.specs.Fits.{AllFit}
use Rattle.lease_disk.specs.Contents.{after_write}
use Rattle.lease_disk.specs.Images.{Torn}
use Rattle.lease_disk.proofs.Within.{after_write_within, torn_front}
use Rattle.journal_sides.specs.declared.formats.Format.TheVariants.{Second}
use Rattle.journal_sides.specs.Frames.{frame_text, frames_text, records_of}
use Rattle.journal_sides.specs.Appending.{AllMayFollow}
use Rattle.journal_sides.specs.Sides.{head_text, side_text, AreBatches, IsOpenSide}
use Rattle.journal_sides.proofs.FrameLaws.{frames_text-append, frames_text-push, records_of-append, fit-append, each-append, gate_and_rest}

-- what the batches hold with more
pub more_batches : (parity generation : ℕ) (batches more : List (List Record)) → AreBatches Second parity generation batches → AllMayFollow Second batches more → AreBatches Second parity generation (batches ++ more)
more_batches parity generation batches more are may = record {
  width = are.width;
  next = tt;
  of_side = are.of_side;
  some = omega (arith, are.some, length-append batches more);
  each = each-append batches more are.each may.each;
  fit = subst (AllFit empty_state) (sym (records_of-append batches more)) (fit-append empty_state (records_of batches) (records_of more) are.fit may.fit);
}

pub side_text-append : (generation : ℕ) (batches more : List (List Record)) (rest : List ℕ) → side_text Second generation (batches ++ more) ++ rest ≡ side_text Second generation batches ++ (frames_text more ++ rest)
side_text-append generation batches more rest =
    append_assoc (head_text Second generation) (frames_text (batches ++ more)) rest
    ∙ ap (λ (l : List ℕ). head_text Second generation ++ l) (ap (λ (l : List ℕ). l ++ rest) (frames_text-append batches more) ∙ append_assoc (frames_text batches) (frames_text more) rest)
    ∙ sym (append_assoc (head_text Second generation) (frames_text batches) (frames_text more ++ rest))

pub side_text-push : (generation : ℕ) (batches : List (List Record)) (batch : List Record) (rest : List ℕ) → side_text Second generation (batches ++ batch ∷ []) ++ rest ≡ side_text Second generation batches ++ 1 ∷ (frame_text batch ++ rest)
side_text-push generation batches batch rest =
    append_assoc (head_text Second generation) (frames_text (batches ++ batch ∷ [])) rest
    ∙ ap (λ (l : List ℕ). head_text Second generation ++ l) (frames_text-push batches batch rest)
    ∙ sym (append_assoc (head_text Second generation) (frames_text batches) (1 ∷ (frame_text batch ++ rest)))

-- a list whose front is known
whole_of : (place : ℕ) (front octets : List ℕ) → take place octets ≡ front → octets ≡ front ++ drop place octets
whole_of place front octets is = sym (take-append-drop place octets) ∙ ap (λ (l : List ℕ). l ++ drop place octets) is

module _ (parity generation : ℕ) (batches : List (List Record)) (octets : List ℕ) (side : IsOpenSide Second parity octets generation batches) («end» : ℕ) (place : «end» ≡ length (side_text Second generation batches)) where
  abbrev front : List ℕ
  front = side_text Second generation batches

  size : length octets ≡ «end» + 1 + length side.behind
  size = omega (arith, ap length side.text, length-append front (side.gate ∷ side.behind), place)

  front_is : take («end» + 1) octets ≡ front ++ side.gate ∷ []
  front_is =
      ap (λ (l : List ℕ). take («end» + 1) l) (side.text ∙ sym (append_assoc front (side.gate ∷ []) side.behind))
      ∙ take_at (front ++ side.gate ∷ []) side.behind («end» + 1) (omega (arith, place, length_push front side.gate))

  -- the gate stands in each outcome of the write behind it
  pub behind_torn : (n : ℕ) (image : List ℕ) → Torn («end» + 1) n octets image → IsOpenSide Second parity image generation batches
  behind_torn n image torn =
      let same : take («end» + 1) image ≡ front ++ side.gate ∷ [] = torn_front («end» + 1) n octets image (omega (arith, size)) torn ∙ front_is in
      record {
        contents = side.contents;
        gate = side.gate;
        behind = drop («end» + 1) image;
        closed = side.closed;
        text = whole_of («end» + 1) (front ++ side.gate ∷ []) image same ∙ append_assoc front (side.gate ∷ []) (drop («end» + 1) image);
      }

  -- and so it does where the write is done
  pub behind_written : (piece : List ℕ) → after_write octets («end» + 1) piece ≡ front ++ side.gate ∷ (piece ++ drop («end» + 1 + length piece) octets)
  behind_written piece =
      let rest = drop («end» + 1 + length piece) octets in
      after_write_within octets («end» + 1) piece (omega (arith, size))
      ∙ ap (λ (l : List ℕ). l ++ piece ++ rest) front_is
      ∙ append_assoc (front ++ side.gate ∷ []) piece rest
      ∙ append_assoc front (side.gate ∷ []) (piece ++ rest)

-- whole frames and a closed gate stand behind a gate
module _ (parity generation : ℕ) (batches more : List (List Record)) (are : AreBatches Second parity generation batches) (may : AllMayFollow Second batches more) (behind : List ℕ) where
  abbrev pub staged : ℕ → List ℕ
  staged gate = side_text Second generation batches ++ gate ∷ (drop 1 (frames_text more) ++ 0 ∷ behind)

  pub staged_closed : (gate : ℕ) → gate ≢ 1 → IsOpenSide Second parity (staged gate) generation batches
  staged_closed gate closed = record { contents = are; gate = gate; behind = drop 1 (frames_text more) ++ 0 ∷ behind; closed = closed; text = refl }

  pub staged_open : (gate : ℕ) → gate ≡ 1 → IsOpenSide Second parity (staged gate) generation (batches ++ more)
  staged_open gate is = record {
    contents = more_batches parity generation batches more are may;
    gate = 0;
    behind = behind;
    closed = omega arith;
    text = ap staged is ∙ ap (λ (l : List ℕ). side_text Second generation batches ++ (l ++ 0 ∷ behind)) (gate_and_rest more may.some) ∙ sym (side_text-append generation batches more (0 ∷ behind));
  }

  pub with_or_without : (gate : ℕ) → IsOpenSide Second parity (staged gate) generation batches ⊎ IsOpenSide Second parity (staged gate) generation (batches ++ more)
  with_or_without gate = elim (cases_eq gate 1) [
    | inl is ↦ inr (staged_open gate is)
    | inr not ↦ inl (staged_closed gate not)
  ]

  module _ (gate : ℕ) («end» : ℕ) (place : «end» ≡ length (side_text Second generation batches)) where
    abbrev before : List ℕ
    before = side_text Second generation batches

    abbrev rest : List ℕ
    rest = drop 1 (frames_text more) ++ 0 ∷ behind

    long : length (staged gate) ≡ «end» + 1 + length rest
    long = omega (arith, length-append before (gate ∷ rest), place)

    before_gate : take «end» (staged gate) ≡ before
    before_gate = take_at before (gate ∷ rest) «end» (sym place)

    behind_gate : drop («end» + 1) (staged gate) ≡ rest
    behind_gate =
        ap (λ (l : List ℕ). drop («end» + 1) l) (sym (append_assoc before (gate ∷ []) rest))
        ∙ drop_at (before ++ gate ∷ []) rest («end» + 1) (omega (arith, place, length_push before gate))

    -- each outcome of the write of the gate is that with some gate
    pub gate_torn : (image : List ℕ) → Torn «end» 1 (staged gate) image → image ≡ staged (get_or image «end» 0)
    gate_torn image torn =
        let some : «end» < length image = omega (arith, torn.no_shorter, long) in
        let whole : take «end» image ≡ before = torn_front «end» 1 (staged gate) image (omega (arith, long)) torn ∙ before_gate in
        let left : drop «end» image ≡ get_or image «end» 0 ∷ rest = drop_more image «end» 0 some ∙ ap (λ (l : List ℕ). get_or image «end» 0 ∷ l) (torn.after ∙ behind_gate) in
        whole_of «end» before image whole ∙ ap (λ (l : List ℕ). before ++ l) left

    pub gate_written : after_write (staged gate) «end» (1 ∷ []) ≡ staged 1
    gate_written =
        after_write_within (staged gate) «end» (1 ∷ []) (omega (arith, long))
        ∙ ap (λ (l : List ℕ). l ++ (1 ∷ []) ++ drop («end» + 1) (staged gate)) before_gate
        ∙ ap (λ (l : List ℕ). before ++ (1 ∷ []) ++ l) behind_gate
        ∙ append_assoc before (1 ∷ []) rest
