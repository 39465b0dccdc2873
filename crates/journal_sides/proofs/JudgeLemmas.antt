-- What a side is, by its head and the walk over its frames.
use Rattle.std.proofs.Common.{◌≡◌, inl, inr, ℕ, ◌-◌, ◌<◌, ◌≤◌, List, [], ◌∷◌, ◌++◌, length, take, drop, get_or, sym, ◌∙◌, ap, subst, arith, append_assoc, take_all, take-append-drop, drop-drop, length-append}
use Rattle.std.proofs.lemmas.List.{get_or-take}
use Rattle.pcp_base.specs.declared.records.Record.{Record}
use Rattle.pcp_base.specs.States.{State, empty_state}
use Rattle.journal_sides.specs.declared.formats.Format.{Format}
use Rattle.journal_sides.specs.Formats.{AllFitBy}
use Rattle.journal_sides.specs.Frames.{frames_text}
use Rattle.journal_sides.specs.Heads.{IsHead}
use Rattle.journal_sides.specs.Judging.{IsStanding}
use Rattle.journal_sides.specs.Sides.{head_text, side_text, IsOpenSide, IsClosedSide, IsBadSide}
use Rattle.journal_sides.specs.Walks.{HasFrames, WalkEnds, WalkFails}
use Rattle.journal_sides.proofs.WalkLaws.{IsStuck, stuck_not_open}

-- the head of an open side is its first 14 octets
open_head : (parity : ℕ) (octets : List ℕ) (k : Format) (h : ℕ) (others : List (List Record)) → IsOpenSide k parity octets h others → IsHead parity (take 14 octets) k h
open_head parity octets k h others side = record {
  width = side.contents.width;
  next = side.contents.next;
  of_side = side.contents.of_side;
  text = ap (take 14) (side.text ∙ append_assoc (head_text k h) (frames_text others) (side.gate ∷ side.behind));
}

pub not_closed : (octets : List ℕ) → 15 ≤ length octets → get_or octets 0 0 ≡ 1 → ¬ (IsClosedSide octets)
not_closed octets long gate (inl short) = omega (arith, long, short)
not_closed octets long gate (inr shut) = shut gate

-- a head that no side may have
pub bad_head : (parity : ℕ) (octets : List ℕ) → 15 ≤ length octets → get_or octets 0 0 ≡ 1 → ((f : Format) (g : ℕ) → ¬ (IsHead parity (take 14 octets) f g)) → IsBadSide parity octets
bad_head parity octets long gate none = (not_closed octets long gate, λ k h others side. none k h (open_head parity octets k h others side))

module _ (parity : ℕ) (octets : List ℕ) (f : Format) (g : ℕ) (head : IsHead parity (take 14 octets) f g) where
  -- the frames stand behind the head
  framed_text : (now : State) (place : ℕ) (frames : HasFrames f empty_state now (drop 14 octets) (place - 14)) → 14 ≤ place → octets ≡ side_text f g frames.batches ++ drop place octets
  framed_text now place frames past =
      sym (take-append-drop 14 octets) ∙ ap (λ (l : List ℕ). l ++ drop 14 octets) head.text ∙ ap (λ (l : List ℕ). head_text f g ++ l) frames.text
      ∙ ap (λ (l : List ℕ). head_text f g ++ (frames_text frames.batches ++ l)) (drop-drop (place - 14) 14 octets ∙ ap (λ (k : ℕ). drop k octets) (omega (arith, past)))
      ∙ sym (append_assoc (head_text f g) (frames_text frames.batches) (drop place octets))

  some_batch : (batches : List (List Record)) (n : ℕ) → n ≡ length (frames_text batches) → 0 < n → 0 < length batches
  some_batch [] n is some = absurd (omega (arith, is, some))
  some_batch (b ∷ batches) n is some = omega arith

  pub good_side : (now : State) (place size : ℕ) → 14 < place → size ≡ length octets → WalkEnds f now octets place → IsStanding parity octets (record { format = f; generation = g; end = place; length = size }) now
  good_side now place size past long walk =
      let frames = walk.frames in
      record {
        batches = frames.batches;
        side = record {
          contents = record { width = head.width; next = head.next; of_side = head.of_side; some = some_batch frames.batches (place - 14) frames.size (omega (arith, past)); each = frames.each; fit = frames.fit };
          gate = walk.here.gate;
          behind = walk.here.behind;
          closed = walk.here.closed;
          text = framed_text now place frames walk.past ∙ ap (λ (l : List ℕ). side_text f g frames.batches ++ l) walk.here.text;
        };
        place = omega (arith, walk.past, frames.size, length-append (head_text f g) (frames_text frames.batches));
        long = long;
        stands = sym frames.leads;
      }

  pub bad_walk : 15 ≤ length octets → get_or octets 0 0 ≡ 1 → WalkFails f octets → IsBadSide parity octets
  bad_walk long gate walk =
      let frames = walk.frames in
      let stuck : IsStuck f frames.batches (drop walk.place octets) = record {
        not_ended = walk.stuck.not_ended;
        no_frame = λ batch behind may. walk.stuck.no_frame batch behind may.is (subst (λ (s : State). AllFitBy f s batch) (sym frames.leads) may.fit);
      } in
      (not_closed octets long gate, λ k h others side. stuck_not_open f parity octets g frames.batches (drop walk.place octets) head.width frames.each (framed_text walk.mid walk.place frames walk.past) stuck k h others side)

  -- a closed gate stands where the first frame should
  pub no_first : 15 ≤ length octets → get_or octets 0 0 ≡ 1 → (now : State) → WalkEnds f now octets 14 → IsBadSide parity octets
  no_first long gate now walk = (not_closed octets long gate, λ k h others side. first k h others side.contents.some (side.gate ∷ side.behind) (side.text ∙ append_assoc (head_text k h) (frames_text others) (side.gate ∷ side.behind)))
    where
      first : (k : Format) (h : ℕ) (others : List (List Record)) → 0 < length others → (rest : List ℕ) → octets ≡ head_text k h ++ (frames_text others ++ rest) → ⊥
      first k h [] some rest is = omega (arith, some)
      first k h (b ∷ others) some rest is = walk.here.closed (ap (λ (l : List ℕ). get_or l 0 0) (sym walk.here.text ∙ ap (drop 14) is))

  open_gate : get_or octets 0 0 ≡ 1
  open_gate = sym (get_or-take 14 octets 0 0 (omega arith)) ∙ ap (λ (l : List ℕ). get_or l 0 0) head.text

  pub judged_good : (now : State) (place size : ℕ) → 14 < place → size ≡ length octets → WalkEnds f now octets place → IsStanding parity octets (record { format = f; generation = g; end = place; length = size }) now
  judged_good now place size past long walk = good_side now place size past long walk

  pub judged_bad : 15 ≤ length octets → WalkFails f octets → IsBadSide parity octets
  judged_bad long walk = bad_walk long open_gate walk

  pub judged_empty : 15 ≤ length octets → (now : State) (place : ℕ) → (14 < place → ⊥) → WalkEnds f now octets place → IsBadSide parity octets
  judged_empty long now place none walk = no_first long open_gate now (subst (WalkEnds f now octets) (omega (arith, none, walk.past)) walk)

-- the head that was read
pub whole_head : (octets left head : List ℕ) (count : ℕ) → length head ≡ 14 → 14 ≤ count → count ≤ length head → take count head ≡ take (length head) (drop 0 left) → left ≡ octets → head ≡ take 14 octets
whole_head octets left head count long some few reads same =
    sym (take_all count head (omega (arith, long, some))) ∙ reads ∙ ap (λ (l : List ℕ). take (length head) l) same ∙ ap (λ (k : ℕ). take k octets) long
