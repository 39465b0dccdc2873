-- The walk over a whole side, piece by piece.
use Rattle.std.proofs.Common.{◌≡◌, inl, inr, ℕ, ◌+◌, ◌-◌, ◌<◌, ◌≤◌, min, List, [], ◌∷◌, ◌++◌, length, take, drop, sym, ◌∙◌, ap, subst, arith, append_assoc, take_all, take-append-drop, drop-drop, length-take, length-drop, length-append}
use Rattle.std.specs.Prelude.{◌⊎◌, true}
use Rattle.std.proofs.lemmas.Bool.{cases_lt}
use Rattle.std.proofs.lemmas.List.{append-nil, drop_all, drop_at, take-append-le}
use Rattle.pcp_base.specs.States.{State, empty_state}
use Rattle.journal_sides.specs.declared.formats.Format.{Format}
use Rattle.journal_sides.specs.Reads.{IsRead}
use Rattle.journal_sides.specs.Walks.{IsStuckAt, IsEnded, IsFramed, HasFrames, WalkEnds, WalkFails}
use Rattle.journal_sides.specs.Frames.{frame_text}
use Rattle.journal_sides.proofs.TurnLemmas.{stuck_nothing, no_frames, frame_more, frames_more, frames_behind}

-- so far the walk has come to this place
pub record IsWalking {D : Type 0} (tells : Type 0) (seen : D → List ℕ) (may_leave : D → List ℕ → Type 0) (moment : D → ℕ) (left_since : D → ℕ → List ℕ → Type 0) (faults : D → ℕ) (ready : Type 0) (format : Format) (old now : D) (s : State) (size place : ℕ) (room : List ℕ) : Type 0 where
  pub past : 14 ≤ place
  pub within : place ≤ size
  pub roomy : 4101 ≤ length room
  pub frames : tells → size ≡ length (seen old) → HasFrames format empty_state s (drop 14 (seen old)) (place - 14)
  pub begun : 14 < place → s.started ≡ true
  pub still : tells → seen now ≡ seen old
  pub read : IsRead moment left_since may_leave old now
  pub quiet : faults now ≡ faults old
  pub is_ready : ready

pub starts_walk : (f : Format) (s : State) (octets : List ℕ) → s ≡ empty_state → HasFrames f empty_state s octets (14 - 14)
starts_walk f s octets is = subst (λ (t : State). HasFrames f empty_state t octets 0) (sym is) (no_frames f empty_state octets)

-- a slice from a place on
pub from_place : (octets : List ℕ) (at : ℕ) → take (length octets - at) (drop at octets) ≡ drop at octets
from_place octets at = take_all (length octets - at) (drop at octets) (omega (arith, length-drop at octets))

-- what was read into the front of a buffer
pub piece_reads : (octets left filled tail : List ℕ) (place wanted count : ℕ) → count ≤ length filled → take count filled ≡ take (length filled) (drop place left) → left ≡ octets → length filled ≡ wanted
    → take count (filled ++ tail) ≡ take wanted (drop place octets)
piece_reads octets left filled tail place wanted count within reads same long =
    take-append-le count filled tail within ∙ reads ∙ ap (λ (l : List ℕ). take (length filled) (drop place l)) same ∙ ap (λ (k : ℕ). take k (drop place octets)) long

-- either all that is left was wanted, or enough for a frame
pub wants_enough : (left room wanted : ℕ) → wanted ≡ min left room → 4101 ≤ room → (wanted ≡ left) ⊎ (4101 ≤ wanted)
wants_enough left room wanted is enough = elim (cases_lt room left) [
  | inl less ↦ inr (omega (arith, is, enough, less))
  | inr more ↦ inl (omega (arith, is, more))
]

-- the octets from the place on begin with the piece that was read
module _ (f : Format) (octets piece : List ℕ) (place wanted : ℕ) (past : 14 ≤ place) (reads : piece ≡ take wanted (drop place octets)) where
  abbrev more : List ℕ
  more = drop wanted (drop place octets)

  whole : drop place octets ≡ piece ++ more
  whole = sym (take-append-drop wanted (drop place octets)) ∙ ap (λ (l : List ℕ). l ++ more) (sym reads)

  from_first : drop (place - 14) (drop 14 octets) ≡ drop place octets
  from_first = drop-drop (place - 14) 14 octets ∙ ap (λ (k : ℕ). drop k octets) (omega (arith, past))

  -- what stands behind the frames of the piece
  behind : (used : ℕ) → used ≤ length piece → drop (place + used) octets ≡ drop used piece ++ more
  behind used few =
      sym (drop-drop used place octets) ∙ ap (drop used) (whole ∙ ap (λ (l : List ℕ). l ++ more) (sym (take-append-drop used piece)) ∙ append_assoc (take used piece) (drop used piece) more)
      ∙ drop_at (take used piece) (drop used piece ++ more) used (omega (arith, length-take used piece, few))

  pub goes_on_walking : (s mid : State) (used : ℕ) → used ≤ length piece → HasFrames f empty_state s (drop 14 octets) (place - 14) → HasFrames f s mid piece used → HasFrames f empty_state mid (drop 14 octets) (place + used - 14)
  goes_on_walking s mid used few so_far frames =
      let here : HasFrames f s mid (drop (place - 14) (drop 14 octets)) used = subst (λ (l : List ℕ). HasFrames f s mid l used) (sym (from_first ∙ whole)) (frames_behind f s mid piece more used few frames) in
      subst (λ (k : ℕ). HasFrames f empty_state mid (drop 14 octets) k) (omega (arith, past)) (frames_more f empty_state s mid (drop 14 octets) (place - 14) used so_far here)

  pub walk_ends : (s now mid : State) (used : ℕ) → used ≤ length piece → HasFrames f empty_state s (drop 14 octets) (place - 14) → HasFrames f s mid piece used → IsEnded (drop used piece) → now ≡ mid
      → WalkEnds f now octets (place + used)
  walk_ends s now mid used few so_far frames ended is = record {
    frames = subst (λ (t : State). HasFrames f empty_state t (drop 14 octets) (place + used - 14)) (sym is) (goes_on_walking s mid used few so_far frames);
    past = omega (arith, past);
    here = record { gate = ended.gate; behind = ended.behind ++ more; closed = ended.closed; text = behind used few ∙ ap (λ (l : List ℕ). l ++ more) ended.text };
  }

  pub walk_sticks : (s mid : State) (used : ℕ) → used ≤ length piece → HasFrames f empty_state s (drop 14 octets) (place - 14) → HasFrames f s mid piece used → ((rest : List ℕ) → IsStuckAt f mid (drop used piece ++ rest)) → WalkFails f octets
  walk_sticks s mid used few so_far frames stuck = record {
    place = place + used;
    past = omega (arith, past);
    mid = mid;
    frames = goes_on_walking s mid used few so_far frames;
    stuck = subst (IsStuckAt f mid) (sym (behind used few)) (stuck more);
  }

  -- the piece is all that is left, since it is shorter than what was wanted, or that was all
  nothing_more : (wanted ≡ length octets - place) ⊎ (4101 ≤ wanted) → length piece < 4101 → more ≡ []
  nothing_more (inl all) short = drop_all wanted (drop place octets) (omega (arith, length-drop place octets, all))
  nothing_more (inr enough) short = drop_all wanted (drop place octets) (omega (arith, ap length reads, length-take wanted (drop place octets), short, enough))

  pub walk_short : (s mid : State) → (wanted ≡ length octets - place) ⊎ (4101 ≤ wanted) → HasFrames f empty_state s (drop 14 octets) (place - 14) → HasFrames f s mid piece 0 → IsStuckAt f mid piece → length piece < 4101 → WalkFails f octets
  walk_short s mid all so_far frames stuck short = record {
    place = place + 0;
    past = omega (arith, past);
    mid = mid;
    frames = goes_on_walking s mid 0 (omega arith) so_far frames;
    stuck = subst (IsStuckAt f mid) (sym (behind 0 (omega arith) ∙ ap (λ (l : List ℕ). piece ++ l) (nothing_more all short) ∙ append-nil piece)) stuck;
  }

pub walk_out : (f : Format) (s : State) (octets : List ℕ) (size place : ℕ) → 14 ≤ place → size ≤ place → size ≡ length octets → HasFrames f empty_state s (drop 14 octets) (place - 14) → WalkFails f octets
walk_out f s octets size place past out all so_far = record {
  place = place;
  past = past;
  mid = s;
  frames = so_far;
  stuck = subst (IsStuckAt f s) (sym (drop_all place octets (omega (arith, out, all)))) (stuck_nothing f s);
}

-- so many octets of a piece are whole frames
pub record IsPieceWalked (format : Format) (s now : State) (octets : List ℕ) (at : ℕ) (ready : Type 0) : Type 0 where
  pub frames : HasFrames format s now octets at
  pub within : at ≤ length octets
  pub is_ready : ready

pub piece_more : (f : Format) (s mid now : State) (octets : List ℕ) (at n : ℕ) (ready next : Type 0) → IsPieceWalked f s mid octets at ready → IsFramed f mid now (drop at octets) n → next → IsPieceWalked f s now octets (at + n) next
piece_more f s mid now octets at n ready next so_far one is = record {
  frames = frame_more f s mid now octets at n so_far.frames one;
  within = omega (arith, so_far.within, ap length one.text, one.size, length-append (1 ∷ frame_text one.batch) (drop n (drop at octets)), length-drop at octets);
  is_ready = is;
}
