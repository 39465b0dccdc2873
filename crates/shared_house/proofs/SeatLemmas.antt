-- Seats that are split off one.
use Rattle.std.specs.List.{AllByRecursion, sum_by}
use Rattle.std.proofs.Common.{◌≡◌, ◌∙◌, ℕ, ◌+◌, List, [], ◌∷◌, ◌++◌, length, refl, ap, sym, subst}
use Rattle.std.proofs.Common.{arith}
use Rattle.std.proofs.lemmas.List.{length-append}
use Rattle.std.proofs.lemmas.List.Sums.{sum_by-append}
use Rattle.epoch_word.specs.Rule.{AreSplit, SeatKnowledge}
use Rattle.shared_house.specs.Seats.{AreSeats, Knows}

all-push : {X : Type 0} (P : X → Type 0) (xs : List X) (x : X) → AllByRecursion P xs → P x →
    AllByRecursion P (xs ++ x ∷ [])
all-push P [] x all here = (here, tt)
all-push P (y ∷ ys) x all here = (all.0, all-push P ys x all.1 here)

-- these seats have so much of a share, and the last one has the rest
pub record AreSplitOff (first : SeatKnowledge) (seats : List SeatKnowledge)
    (last : SeatKnowledge) : Type 0 where
  pub each : AllByRecursion (Knows first.word first.raised first.heard) seats
  pub knows : Knows first.word first.raised first.heard last
  pub shares : sum_by (λ s. s.share) seats + last.share ≡ first.share

pub none-off : (first : SeatKnowledge) (seats : List SeatKnowledge) → seats ≡ [] →
    AreSplitOff first seats first
none-off first seats none = record {
  each = subst (AllByRecursion (Knows first.word first.raised first.heard)) (sym none) tt;
  knows = record { word_is = refl; raised_is = refl; heard_is = refl };
  shares = let e : sum_by (λ s. s.share) seats + first.share ≡ 0 + first.share =
      ap (λ (ss : List SeatKnowledge). sum_by (λ s. s.share) ss + first.share) none in
      omega (arith, e);
}

summed : (seats more : List SeatKnowledge) (s : SeatKnowledge) → more ≡ seats ++ s ∷ [] →
    sum_by (λ s. s.share) more ≡ sum_by (λ s. s.share) seats + s.share
summed seats more s is =
    let e : sum_by (λ s. s.share) more ≡ sum_by (λ s. s.share) seats + (0 + s.share) =
    ap (λ (ss : List SeatKnowledge). sum_by (λ s. s.share) ss) is
    ∙ sum_by-append (λ (k : SeatKnowledge). k.share) seats (s ∷ []) in
    omega (arith, e)

pub one-off : (first last kept new : SeatKnowledge) (seats more : List SeatKnowledge) →
    AreSplitOff first seats last → AreSplit last kept new → more ≡ seats ++ new ∷ [] →
    AreSplitOff first more kept
one-off first last kept new seats more so parts is = record {
  each = subst (AllByRecursion (Knows first.word first.raised first.heard)) (sym is)
      (all-push (Knows first.word first.raised first.heard) seats new so.each (record {
        word_is = ap (λ (k : SeatKnowledge). k.word) parts.new_is ∙ so.knows.word_is;
        raised_is = ap (λ (k : SeatKnowledge). k.raised) parts.new_is ∙ so.knows.raised_is;
        heard_is = ap (λ (k : SeatKnowledge). k.heard) parts.new_is ∙ so.knows.heard_is;
      }));
  knows = record {
    word_is = ap (λ (k : SeatKnowledge). k.word) parts.kept_is ∙ so.knows.word_is;
    raised_is = ap (λ (k : SeatKnowledge). k.raised) parts.kept_is ∙ so.knows.raised_is;
    heard_is = ap (λ (k : SeatKnowledge). k.heard) parts.kept_is ∙ so.knows.heard_is;
  };
  shares = let sum = summed seats more new is in let whole = parts.whole in let all = so.shares in
      omega (arith, sum, whole, all);
}

pub all-off : (first last : SeatKnowledge) (seats more : List SeatKnowledge) (count : ℕ) →
    AreSplitOff first seats last → more ≡ seats ++ last ∷ [] → length seats + 1 ≡ count →
    AreSeats count first more
all-off first last seats more count so is counted = record {
  count_is = ap length is ∙ length-append seats (last ∷ []) ∙ counted;
  each = subst (AllByRecursion (Knows first.word first.raised first.heard)) (sym is)
      (all-push (Knows first.word first.raised first.heard) seats last so.each so.knows);
  shares = summed seats more last is ∙ so.shares;
}
