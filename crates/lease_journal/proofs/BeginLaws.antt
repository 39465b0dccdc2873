-- What is left of a side while it is written anew.
use Rattle.std.proofs.Common.{◌≡◌, inl, inr, ⊎_elim, ℕ, ◌+◌, max, List, [], ◌∷◌, ◌++◌, length, get_or, drop, sym, ◌∙◌, ap, subst, arith, length-append, length-drop}
use Rattle.pcp_base.specs.declared.records.Record.{Record}
use Rattle.lease_disk.specs.Contents.{after_write}
use Rattle.lease_disk.specs.Images.{Torn}
use Rattle.journal_sides.specs.declared.formats.Format.TheVariants.{Second}
use Rattle.journal_sides.specs.declared.sides.Side.{Side}
use Rattle.lease_journal.specs.Beginnings.{IsBegun, IsPrepared, MayBegin, MayShut}
use Rattle.journal_sides.specs.Shut.{IsShut, hidden_text}
use Rattle.journal_sides.specs.Sides.{AreBatches, IsClosedSide, IsOpenSide}
use Rattle.journal_sides.specs.Writes.{ChangesSide, of_side, side_parity}
use Rattle.lease_journal.proofs.Begins.{shut_closed, shut_torn, hidden, hidden_written, gate_opens, gate_is_open}

begun_long : (h text octets image : List ℕ) (size now : ℕ) → text ≡ h ++ 0 ∷ [] → size ≡ length octets → now ≡ max size (1 + length text) → image ≡ 1 ∷ (h ++ 0 ∷ drop (1 + length (h ++ 0 ∷ [])) octets) → now ≡ length image
begun_long h text octets image size now text_is size_is now_is image_is =
    let behind = drop (1 + length (h ++ 0 ∷ [])) octets in
    omega (arith, ap length image_is, length-append h (0 ∷ behind), ap length text_is, length-append h (0 ∷ []), length-drop (1 + length (h ++ 0 ∷ [])) octets, size_is, now_is)

module _ (side : Side) (generation : ℕ) (batches : List (List Record)) (are : AreBatches Second (side_parity side) generation batches) (text : List ℕ) (is_text : text ≡ hidden_text generation batches ++ 0 ∷ []) (a b : List ℕ) where
  pub begins_shut : (x y : List ℕ) → ChangesSide side MayShut a b x y → ChangesSide side (MayBegin (side_parity side) generation batches) a b x y
  begins_shut x y ch = record { changed = ⊎_elim (λ (same : of_side side x y ≡ of_side side a b). inl same) (λ (closed : IsClosedSide (of_side side x y)). inr (inl closed)) ch.changed; unchanged = ch.unchanged }

  module _ (size : ℕ) (c d : List ℕ) (ready : IsPrepared side size a b c d) where
    pub begins_torn : (n : ℕ) (x y : List ℕ) → ChangesSide side (Torn 1 n) c d x y → ChangesSide side (MayBegin (side_parity side) generation batches) a b x y
    begins_torn n x y ch = record { changed = inr (inl (shut_closed (of_side side x y) (shut_torn 1 n (of_side side c d) (of_side side x y) (omega arith) ready.shut ch.changed))); unchanged = ch.unchanged ∙ ready.unchanged }

    module _ (e f : List ℕ) (wrote : ChangesSide side (λ old new. new ≡ after_write old 1 text) c d e f) where
      abbrev behind : List ℕ
      behind = drop (1 + length (hidden_text generation batches ++ 0 ∷ [])) (of_side side c d)

      abbrev gate : ℕ
      gate = get_or (of_side side c d) 0 0

      whole : of_side side e f ≡ hidden (side_parity side) generation batches are behind gate
      whole = wrote.changed ∙ ap (λ (l : List ℕ). after_write (of_side side c d) 1 l) is_text ∙ hidden_written generation batches (of_side side c d) ready.shut.some

      pub begins_open : (x y : List ℕ) → ChangesSide side (Torn 0 1) e f x y → ChangesSide side (MayBegin (side_parity side) generation batches) a b x y
      begins_open x y ch =
          let image = of_side side x y in
          record {
            changed = ⊎_elim (λ (shut : IsShut image). inr (inl (shut_closed image shut))) (λ (is : IsOpenSide Second (side_parity side) image generation batches). inr (inr is))
                (gate_opens (side_parity side) generation batches are behind gate image (subst (λ (l : List ℕ). Torn 0 1 l image) whole ch.changed));
            unchanged = ch.unchanged ∙ wrote.unchanged ∙ ready.unchanged;
          }

      pub begun : (now : ℕ) (x y : List ℕ) → now ≡ max size (1 + length text) → ChangesSide side (λ old new. new ≡ after_write old 0 (1 ∷ [])) e f x y → IsBegun side now generation batches a b x y
      begun now x y is opened =
          let is_open : of_side side x y ≡ after_write (hidden (side_parity side) generation batches are behind gate) 0 (1 ∷ []) = opened.changed ∙ ap (λ (l : List ℕ). after_write l 0 (1 ∷ [])) whole in
          record {
            opened = subst (λ (l : List ℕ). IsOpenSide Second (side_parity side) l generation batches) (sym is_open) (gate_is_open (side_parity side) generation batches are behind gate);
            long = begun_long (hidden_text generation batches) text (of_side side c d) (of_side side x y) size now is_text ready.long is is_open;
            unchanged = opened.unchanged ∙ wrote.unchanged ∙ ready.unchanged;
          }
