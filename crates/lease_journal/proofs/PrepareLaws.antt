-- Reading what stands in front of a side, and shutting it.
use Rattle.std.proofs.Common.{◌≡◌, inl, inr, ⊎_elim, ℕ, ◌<◌, ◌≤◌, max, List, [], ◌∷◌, ◌++◌, length, get_or, take, drop, refl, sym, ◌∙◌, ap, subst, arith, take_all, length-take, length-drop}
use Rattle.std.specs.Prelude.{◌⊎◌}
use Rattle.std.proofs.lemmas.Bool.{cases_eq}
use Rattle.std.proofs.lemmas.List.{drop_more, get_or-take, nil_from_length}
use Rattle.lease_disk.specs.Contents.{after_write}
use Rattle.lease_disk.specs.Images.{Torn}
use Rattle.lease_disk.specs.Pairs.{HoldsNow, PairLeavesOnly}
use Rattle.lease_disk.specs.declared.disks.DiskPair.{DiskPair}
use Rattle.lease_disk.proofs.Within.{after_write_within}
use Rattle.lease_disk.proofs.CallLemmas.{has_now, weaker}
use Rattle.lease_disk.proofs.PairLemmas.{on_a, on_b, pair_goes_on}
use Rattle.journal_sides.specs.declared.sides.Side.{Side}
use Rattle.journal_sides.specs.declared.sides.Side.TheVariants.{A, B}
use Rattle.journal_sides.specs.declared.walks.Judged.{Judged}
use Rattle.journal_sides.specs.declared.walks.Judged.TheVariants.{Closed, Bad, Good}
use Rattle.lease_journal.specs.Beginnings.{IsPrepared, MayShut}
use Rattle.lease_journal.specs.Openings.{IsShutAnew}
use Rattle.journal_sides.specs.Judging.{IsSideJudged}
use Rattle.journal_sides.specs.Reads.{IsRead, ArePairRead, AreSeenStill}
use Rattle.journal_sides.specs.Shut.{IsShut}
use Rattle.journal_sides.specs.Sides.{IsClosedSide}
use Rattle.journal_sides.specs.Writes.{AreDurable, ChangesSide, of_side, other, side_parity}
use Rattle.lease_journal.proofs.Begins.{shut_closed, shut_torn, short_torn, open_torn}

-- no gate is read
pub front_none : (octets piece : List ℕ) (count : ℕ) → count ≡ 0 → length piece ≡ 1 → take count piece ≡ take (length piece) (drop 0 octets) → length octets < 15
front_none octets piece count none one reads =
    let short : length (take (length piece) octets) ≡ 0 = sym (ap length reads) ∙ ap (λ (k : ℕ). length (take k piece)) none in
    omega (arith, short, length-take (length piece) octets, one)

-- a gate is read
pub front_whole : (octets piece : List ℕ) (count : ℕ) → (count ≡ 0 → ⊥) → count ≤ length piece → length piece ≡ 1 → take count piece ≡ take (length piece) (drop 0 octets) → piece ≡ take (length piece) octets
front_whole octets piece count some within one reads = sym (take_all count piece (omega (arith, one, some))) ∙ reads

pub front_gate : (octets piece : List ℕ) → length piece ≡ 1 → piece ≡ take (length piece) octets → get_or octets 0 0 ≡ get_or piece 0 0
front_gate octets piece one whole = sym (get_or-take (length piece) octets 0 0 (omega (arith, one))) ∙ ap (λ (l : List ℕ). get_or l 0 0) (sym whole)

pub front_some : (octets piece : List ℕ) → length piece ≡ 1 → piece ≡ take (length piece) octets → 0 < length octets
front_some octets piece one whole = omega (arith, one, ap length whole, length-take (length piece) octets)

has_gate : (l : List ℕ) → get_or l 0 0 ≡ 1 → 0 < length l
has_gate [] e = absurd (omega (arith, e))
has_gate (x ∷ l) e = omega arith

shuts_torn : (octets image : List ℕ) → (length octets < 15) ⊎ (get_or octets 0 0 ≡ 1) → Torn 0 1 octets image → MayShut octets image
shuts_torn octets image (inl short) torn = inr (short_torn octets image short torn)
shuts_torn octets image (inr is) torn = ⊎_elim (λ (same : image ≡ octets). inl same) (λ (shut : IsShut image). inr (shut_closed image shut)) (open_torn octets image (has_gate octets is) is torn)

-- a write to the gate of a side that may be shut
pub prepared_torn : (side : Side) (a b x y : List ℕ) → (length (of_side side a b) < 15) ⊎ (get_or (of_side side a b) 0 0 ≡ 1) → ChangesSide side (Torn 0 1) a b x y → ChangesSide side MayShut a b x y
prepared_torn side a b x y gate change = record { changed = shuts_torn (of_side side a b) (of_side side x y) gate change.changed; unchanged = change.unchanged }

pub same_sides : (side : Side) (a b x y : List ℕ) → x ≡ a → y ≡ b → ChangesSide side MayShut a b x y
same_sides A a b x y same_a same_b = record { changed = inl same_a; unchanged = same_b }
same_sides B a b x y same_a same_b = record { changed = inl same_b; unchanged = same_a }

written_shut : (old new : List ℕ) → new ≡ after_write old 0 (0 ∷ []) → IsShut new
written_shut old new is = record { some = omega (arith, ap length is); gate = λ e. omega (arith, e, ap (λ (l : List ℕ). get_or l 0 0) is) }

pub prepared_written : (side : Side) (size now : ℕ) (a b x y : List ℕ) → size ≡ length (of_side side a b) → now ≡ max size 1 → ChangesSide side (λ old new. new ≡ after_write old 0 (0 ∷ [])) a b x y → IsPrepared side now a b x y
prepared_written side size now a b x y long is wrote = record {
  front = inl wrote.changed;
  shut = written_shut (of_side side a b) (of_side side x y) wrote.changed;
  long = omega (arith, is, long, ap length wrote.changed, length-drop 1 (of_side side a b));
  unchanged = wrote.unchanged;
}

-- one octet behind the gate of a shut side
behind_gate : (old : List ℕ) → 0 < length old → after_write old 1 (0 ∷ []) ≡ get_or old 0 0 ∷ 0 ∷ drop 2 old
behind_gate old some =
    after_write_within old 1 (0 ∷ []) (omega (arith, some))
    ∙ ap (λ (l : List ℕ). l ++ (0 ∷ []) ++ drop 2 old) (ap (λ (l : List ℕ). take 1 l) (drop_more old 0 0 some))

behind_shut : (old new : List ℕ) → IsShut old → new ≡ after_write old 1 (0 ∷ []) → IsShut new
behind_shut old new shut is =
    let whole = is ∙ behind_gate old shut.some in
    record { some = omega (arith, ap length whole); gate = λ e. shut.gate (sym (ap (λ (l : List ℕ). get_or l 0 0) whole) ∙ e) }

behind_long : (old new : List ℕ) (size now : ℕ) → IsShut old → new ≡ after_write old 1 (0 ∷ []) → size ≡ length old → now ≡ max size 2 → now ≡ length new
behind_long old new size now shut is long max_is =
    omega (arith, ap length (is ∙ behind_gate old shut.some), length-drop 2 old, long, max_is)

pub shut_again_torn : (side : Side) (a b x y : List ℕ) → IsShut (of_side side a b) → ChangesSide side (Torn 1 1) a b x y → ChangesSide side MayShut a b x y
shut_again_torn side a b x y shut ch =
    record { changed = inr (shut_closed (of_side side x y) (shut_torn 1 1 (of_side side a b) (of_side side x y) (omega arith) shut ch.changed)); unchanged = ch.unchanged }

pub shut_again_written : (side : Side) (size now : ℕ) (a b x y : List ℕ) → IsShut (of_side side a b) → size ≡ length (of_side side a b) → now ≡ max size 2
    → ChangesSide side (λ old new. new ≡ after_write old 1 (0 ∷ [])) a b x y → IsPrepared side now a b x y
shut_again_written side size now a b x y shut long is wrote = record {
  front = inr (shut, wrote.changed);
  shut = behind_shut (of_side side a b) (of_side side x y) shut wrote.changed;
  long = behind_long (of_side side a b) (of_side side x y) size now shut wrote.changed long is;
  unchanged = wrote.unchanged;
}

-- a side that was shut anew is closed
pub anew_closed : (old new : List ℕ) → IsShutAnew old new → IsClosedSide new
anew_closed old new (inl (none, same)) = inl (omega (arith, ap length same, ap length none))
anew_closed old new (inr (some, inl is)) = shut_closed new (written_shut old new is)
anew_closed old new (inr (some, inr (shut, is))) = shut_closed new (behind_shut old new shut is)

-- a side without octets was only read
pub shut_none : (side : Side) (a b x y : List ℕ) → x ≡ a → y ≡ b → length (of_side side a b) ≡ 0 → ChangesSide side IsShutAnew a b x y
shut_none A a b x y same_a same_b none = record { changed = inl (nil_from_length a none, same_a); unchanged = same_b }
shut_none B a b x y same_a same_b none = record { changed = inl (nil_from_length b none, same_b); unchanged = same_a }

pub prepared_anew : (side : Side) (size : ℕ) (a b x y : List ℕ) → 0 < length (of_side side a b) → IsPrepared side size a b x y → ChangesSide side IsShutAnew a b x y
prepared_anew side size a b x y some ready = record { changed = inr (some, ready.front); unchanged = ready.unchanged }

-- a side that was judged and isn't closed has an open gate
pub judged_gate : (parity : ℕ) (octets : List ℕ) (judged : Judged) → IsSideJudged parity octets judged → (judged ≡ Closed → ⊥) → get_or octets 0 0 ≡ 1
judged_gate parity octets Closed is not = absurd (not refl)
judged_gate parity octets Bad is not = elim (cases_eq (get_or octets 0 0) 1) [
  | inl one ↦ one
  | inr other ↦ absurd (is.0 (inr other))
]
judged_gate parity octets (Good standing) is not = ap (λ (l : List ℕ). get_or l 0 0) is.1.side.text

pub shut_written : (side : Side) (a b x y : List ℕ) → ChangesSide side (λ old new. new ≡ after_write old 0 (0 ∷ [])) a b x y → ChangesSide side (λ old new. IsClosedSide new) a b x y
shut_written side a b x y wrote = record { changed = shut_closed (of_side side x y) (written_shut (of_side side a b) (of_side side x y) wrote.changed); unchanged = wrote.unchanged }

-- shutting a side that was judged to be open
pub open_anew : (side : Side) (a b x y : List ℕ) → get_or (of_side side a b) 0 0 ≡ 1 → ChangesSide side (λ old new. new ≡ after_write old 0 (0 ∷ [])) a b x y → ChangesSide side IsShutAnew a b x y
open_anew side a b x y is wrote = record { changed = inr (has_gate (of_side side a b) is, inl wrote.changed); unchanged = wrote.unchanged }

module _ {D : Type 0} (moment : D → ℕ) (left_since : D → ℕ → List ℕ → Type 0) (may_leave : D → List ℕ → Type 0)
    (counts_now : (disk : D) (t : ℕ) (image : List ℕ) → t ≤ moment disk → may_leave disk image → left_since disk t image)
    (only_now : (disk : D) (image : List ℕ) → left_since disk (moment disk) image → may_leave disk image) where
  left_before : (old new : D) → IsRead moment left_since may_leave old new → (image : List ℕ) → may_leave new image → may_leave old image
  left_before old new read image left = has_now moment left_since may_leave counts_now only_now old new (may_leave old) read.run image left

  -- reading both sides leaves what they were
  pub pair_still : (P : List ℕ → List ℕ → Type 0) (old new : DiskPair D) → HoldsNow may_leave P old → ArePairRead moment left_since may_leave old new → PairLeavesOnly moment left_since may_leave old new P
  pair_still P old new here read =
      let mid : DiskPair D = record { a = new.a; b = old.b } in
      pair_goes_on moment left_since may_leave old mid new P
      (on_a moment left_since may_leave old mid P here refl (weaker moment left_since old.a new.a (may_leave old.a) (λ x. (y : List ℕ) → may_leave old.b y → P x y) read.a.run (λ x left y left_b. here x y left left_b)))
      (on_b moment left_since may_leave mid new P (λ x y left_a left_b. here x y (left_before old.a new.a read.a x left_a) left_b) refl (weaker moment left_since old.b new.b (may_leave old.b) (λ y. (x : List ℕ) → may_leave new.a x → P x y) read.b.run (λ y left x left_a. here x y (left_before old.a new.a read.a x left_a) left)))

  module _ (seen : D → List ℕ) where
    pub durable_still : (old new : DiskPair D) → AreDurable seen may_leave old → ArePairRead moment left_since may_leave old new → AreSeenStill seen old new → AreDurable seen may_leave new
    durable_still old new durable read still = record {
      a = λ image left. durable.a image (left_before old.a new.a read.a image left) ∙ sym still.a;
      b = λ image left. durable.b image (left_before old.b new.b read.b image left) ∙ sym still.b;
    }

    -- so a side may yet be shut
    pub prepare_still : (side : Side) (old new : DiskPair D) → AreDurable seen may_leave old → ArePairRead moment left_since may_leave old new
        → PairLeavesOnly moment left_since may_leave old new (ChangesSide side MayShut (seen old.a) (seen old.b))
    prepare_still side old new durable read =
        pair_still (ChangesSide side MayShut (seen old.a) (seen old.b)) old new (λ x y left_a left_b. same_sides side (seen old.a) (seen old.b) x y (durable.a x left_a) (durable.b y left_b)) read
