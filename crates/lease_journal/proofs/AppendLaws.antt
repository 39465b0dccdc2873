-- What the two writes of an append leave of both sides.
use Rattle.std.proofs.Common.{◌≡◌, inl, inr, ⊎_elim, ℕ, ◌+◌, max, List, [], ◌∷◌, ◌++◌, length, get_or, take, drop, refl, sym, ◌∙◌, ap, subst, arith, append_assoc, length-append, length-take, ◌<◌, ◌≤◌}
use Rattle.std.proofs.lemmas.List.{length_push}
use Rattle.pcp_base.specs.declared.records.Record.{Record}
use Rattle.pcp_base.specs.States.{State, empty_state}
use Rattle.pcp_base.specs.Apply.{apply_all, state_of}
use Rattle.pcp_base.specs.Fits.{AllFit}
use Rattle.lease_disk.specs.Contents.{after_write, with_zeros}
use Rattle.lease_disk.specs.Images.{Torn}
use Rattle.lease_disk.specs.ImageLaws.{torn-after_write, length-with_zeros}
use Rattle.journal_sides.specs.declared.formats.Format.{Format}
use Rattle.journal_sides.specs.declared.formats.Format.TheVariants.{Second}
use Rattle.journal_sides.specs.declared.sides.Side.{Side}
use Rattle.journal_sides.specs.declared.walks.Standing.{Standing}
use Rattle.journal_sides.specs.Appending.{AllMayFollow}
use Rattle.journal_sides.specs.Formats.{state_by}
use Rattle.journal_sides.specs.Frames.{frames_text, frames_octets, records_of}
use Rattle.journal_sides.specs.Journals.{GivesWay, StandsFor, StandsForWithOrWithout}
use Rattle.journal_sides.specs.Settled.{StandsBy, with_frame}
use Rattle.journal_sides.specs.Shut.{AreAppended}
use Rattle.journal_sides.specs.Sides.{side_text, IsOpenSide}
use Rattle.journal_sides.specs.Writes.{ChangesSide, of_side, other, side_parity}
use Rattle.journal_sides.proofs.FrameLaws.{gate_and_rest, records_of-append}
use Rattle.journal_sides.proofs.HiddenLaws.{frames_long}
use Rattle.journal_sides.proofs.SideLaws.{behind_torn, behind_written, staged, staged_open, with_or_without, gate_torn, gate_written, side_text-append}
use Rattle.lease_journal.proofs.StandingLaws.{apply_all-append, counted}

-- so many octets written at a place within a list make it so long
pub length-written : (octets piece : List ℕ) (place : ℕ) → 0 < length piece → length (after_write octets place piece) ≡ max (length octets) (place + length piece)
length-written octets [] place some = absurd (omega (arith, some))
length-written octets (x ∷ xs) place some =
    let torn = torn-after_write place (length (x ∷ xs)) octets (x ∷ xs) refl in
    let long = torn_end place octets x xs in
    omega (arith, torn.no_shorter, torn.no_longer, long)
  where
    torn_end : (place : ℕ) (octets : List ℕ) (x : ℕ) (xs : List ℕ) → place + length (x ∷ xs) ≤ length (after_write octets place (x ∷ xs))
    torn_end place octets x xs =
        omega (arith, length-append (take place (with_zeros octets place) ++ (x ∷ xs)) (drop (place + length (x ∷ xs)) octets), length-append (take place (with_zeros octets place)) (x ∷ xs), length-take place (with_zeros octets place), length-with_zeros octets place)

module _ (side : Side) (standing : Standing) (s : State) (batch : List Record) (a b : List ℕ) (is : StandsBy side standing s a b) (second : standing.format ≡ Second) (fit : AllFit s batch) where
  abbrev g : ℕ
  g = standing.generation

  abbrev batches : List (List Record)
  batches = is.counts.batches

  here : IsOpenSide Second (side_parity side) (of_side side a b) g batches
  here = subst (λ (f : Format). IsOpenSide f (side_parity side) (of_side side a b) g batches) second is.counts.side

  stands : state_of (records_of batches) ≡ s
  stands = subst (λ (f : Format). state_by f (records_of batches) ≡ s) second is.counts.stands

  place : standing.end ≡ length (side_text Second g batches)
  place = subst (λ (f : Format). standing.end ≡ length (side_text f g batches)) second is.counts.place

  -- the other side gives way as before
  way : (x y : List ℕ) → of_side (other side) x y ≡ of_side (other side) a b → GivesWay (side_parity (other side)) (of_side (other side) x y) g
  way x y same = subst (λ (l : List ℕ). GivesWay (side_parity (other side)) l g) (sym same) is.gives_way

  -- the frame is written behind the gate, or in part
  pub frame_torn : (n : ℕ) (x y : List ℕ) → ChangesSide side (Torn (standing.end + 1) n) a b x y → StandsFor s x y
  frame_torn n x y change =
      counted side Second x y g batches s (behind_torn (side_parity side) g batches (of_side side a b) here standing.end place n (of_side side x y) change.changed) (way x y change.unchanged) stands

  module _ (frame : List ℕ) (are : AreAppended batch frame) (c d : List ℕ) (wrote : ChangesSide side (λ old new. new ≡ after_write old (standing.end + 1) frame) a b c d) where
    may : AllMayFollow Second batches are.batches
    may = record { some = are.some; each = are.each; fit = subst (λ (t : State). AllFit t (records_of are.batches)) (sym stands) (subst (AllFit s) (sym are.holds) fit) }

    more : state_of (records_of (batches ++ are.batches)) ≡ apply_all s batch
    more = ap state_of (records_of-append batches are.batches) ∙ apply_all-append empty_state (records_of batches) (records_of are.batches) ∙ ap (λ (t : State). apply_all t (records_of are.batches)) stands ∙ ap (apply_all s) are.holds

    abbrev left : List ℕ
    left = drop (standing.end + 1 + length frame) (of_side side a b)

    abbrev at : ℕ → List ℕ
    at = staged (side_parity side) g batches are.batches here.contents may left

    is_staged : of_side side c d ≡ at here.gate
    is_staged =
        wrote.changed ∙ behind_written (side_parity side) g batches (of_side side a b) here standing.end place frame
        ∙ ap (λ (piece : List ℕ). side_text Second g batches ++ here.gate ∷ (piece ++ left)) are.text
        ∙ ap (λ (l : List ℕ). side_text Second g batches ++ here.gate ∷ l) (append_assoc (drop 1 (frames_text are.batches)) (0 ∷ []) left)

    -- the gate is written, or in part
    pub gate_torn_stands : (x y : List ℕ) → ChangesSide side (Torn standing.end 1) c d x y → StandsForWithOrWithout s batch x y
    gate_torn_stands x y change =
        let image = of_side side x y in
        let whole = gate_torn (side_parity side) g batches are.batches here.contents may left here.gate standing.end place image (subst (λ (l : List ℕ). Torn standing.end 1 l image) is_staged change.changed) in
        let gives = way x y (change.unchanged ∙ wrote.unchanged) in
        ⊎_elim
        (λ (out : IsOpenSide Second (side_parity side) (at (get_or image standing.end 0)) g batches). inl (counted side Second x y g batches s (subst (λ (l : List ℕ). IsOpenSide Second (side_parity side) l g batches) (sym whole) out) gives stands))
        (λ (in_it : IsOpenSide Second (side_parity side) (at (get_or image standing.end 0)) g (batches ++ are.batches)). inr (counted side Second x y g (batches ++ are.batches) (apply_all s batch) (subst (λ (l : List ℕ). IsOpenSide Second (side_parity side) l g (batches ++ are.batches)) (sym whole) in_it) gives more))
        (with_or_without (side_parity side) g batches are.batches here.contents may left (get_or image standing.end 0))

    -- and then the batch is in
    pub appended : (e f : List ℕ) → ChangesSide side (λ old new. new ≡ after_write old standing.end (1 ∷ [])) c d e f → StandsBy side (with_frame standing (length frame)) (apply_all s batch) e f
    appended e f opened =
        let open_now : of_side side e f ≡ at 1 = opened.changed ∙ ap (λ (l : List ℕ). after_write l standing.end (1 ∷ [])) is_staged ∙ gate_written (side_parity side) g batches are.batches here.contents may left here.gate standing.end place in
        let gate : 1 + length (drop 1 (frames_text are.batches)) ≡ length (frames_text are.batches) = omega (arith, ap length (gate_and_rest are.batches are.some)) in
        let longer : length (side_text Second g (batches ++ are.batches) ++ 0 ∷ []) ≡ length (side_text Second g batches) + 1 + length frame =
        omega (arith, ap length (side_text-append g batches are.batches (0 ∷ [])), ap length are.text, gate, length-append (side_text Second g batches) (frames_text are.batches ++ 0 ∷ []), length-append (frames_text are.batches) (0 ∷ []), length-append (drop 1 (frames_text are.batches)) (0 ∷ [])) in
        let some : 0 < length frame = omega (arith, ap length are.text, length-append (drop 1 (frames_text are.batches)) (0 ∷ [])) in
        let first : length (of_side side c d) ≡ max (length (of_side side a b)) (standing.end + 1 + length frame) = ap length wrote.changed ∙ length-written (of_side side a b) frame (standing.end + 1) some in
        let then : length (of_side side e f) ≡ max (length (of_side side c d)) (standing.end + 1) = ap length opened.changed ∙ length-written (of_side side c d) (1 ∷ []) standing.end (omega arith) in
        record {
          counts = record {
            batches = batches ++ are.batches;
            side = subst (λ (k : Format). IsOpenSide k (side_parity side) (of_side side e f) g (batches ++ are.batches)) (sym second) (subst (λ (l : List ℕ). IsOpenSide Second (side_parity side) l g (batches ++ are.batches)) (sym open_now) (staged_open (side_parity side) g batches are.batches here.contents may left 1 refl));
            place = subst (λ (k : Format). standing.end + length frame ≡ length (side_text k g (batches ++ are.batches))) (sym second) (omega (arith, place, longer, length_push (side_text Second g (batches ++ are.batches)) 0));
            long = omega (arith, is.counts.long, first, then);
            stands = subst (λ (k : Format). state_by k (records_of (batches ++ are.batches)) ≡ apply_all s batch) (sym second) more;
          };
          gives_way = way e f (opened.unchanged ∙ wrote.unchanged);
        }

-- how many octets are appended with the first gate
pub appended_long : (batch : List Record) (frames : List ℕ) → AreAppended batch frames → length frames ≡ frames_octets batch
appended_long batch frames are =
    omega (arith, ap length are.text, length-append (drop 1 (frames_text are.batches)) (0 ∷ []), ap length (gate_and_rest are.batches are.some), frames_long are.batches are.each are.full, ap frames_octets are.holds)
