-- How 'each image since the start has P' goes on over one device call of each kind, for those who call
-- a disk.
use Rattle.std.proofs.Common.{inl, inr, ⊎_elim, ℕ, ◌≤◌, List, subst, arith}
use Rattle.std.proofs.lemmas.Bool.{cases_lt}
use Rattle.lease_disk.specs.Images.{Torn, CutOrNot, Follows, NoMore, Only}
use Rattle.lease_disk.specs.Moments.{Elapses, LeavesOnly}

-- no further images come where these are the only one
pub only_still : (octets : List ℕ) (old new : List ℕ → Type 0) → Only octets old → NoMore old new → Only octets new
only_still octets old new only still image left = only image (still image left)

-- a step from the only image
pub from_only : (step : List ℕ → List ℕ → Type 0) (octets : List ℕ) (old new : List ℕ → Type 0) → Only octets old → Follows step old new
    → (image : List ℕ) → new image → step octets image
from_only step octets old new only follows image left =
    let from = follows image left in
    subst (λ (earlier : List ℕ). step earlier image) (only from.0 from.1) from.2

module _ {D : Type 0} (moment : D → ℕ) (left_since : D → ℕ → List ℕ → Type 0) where
  -- a call after which each image has P
  pub goes_on : (old mid new : D) (P may_leave : List ℕ → Type 0) → LeavesOnly moment left_since old mid P
      → Elapses (moment mid) (moment new) (left_since mid) (left_since new) may_leave
      → ((image : List ℕ) → may_leave image → P image) → LeavesOnly moment left_since old new P
  goes_on old mid new P may_leave so_far time here = record {
    later = omega (arith, so_far.later, time.later);
    each = λ image left. ⊎_elim (so_far.each image) (here image) (time.nothing_else (moment old) image so_far.later left);
    before = λ t image le left. ⊎_elim (so_far.before t image le) (λ now. inr (here image now)) (time.nothing_else t image (omega (arith, le, so_far.later)) left);
    keeps = λ t image le was. time.keeps t image (omega (arith, le, so_far.later)) (so_far.keeps t image le was);
  }

  -- one run after another
  pub goes_on_run : (old mid new : D) (P : List ℕ → Type 0) → LeavesOnly moment left_since old mid P → LeavesOnly moment left_since mid new P
      → LeavesOnly moment left_since old new P
  goes_on_run old mid new P first second = record {
    later = omega (arith, first.later, second.later);
    each = λ image left. ⊎_elim (first.each image) (λ (has : P image). has) (second.before (moment old) image first.later left);
    before = λ t image le left. ⊎_elim (first.before t image le) (λ has. inr has) (second.before t image (omega (arith, le, first.later)) left);
    keeps = λ t image le was. second.keeps t image (omega (arith, le, first.later)) (first.keeps t image le was);
  }

  -- what follows from P
  pub weaker : (old new : D) (P Q : List ℕ → Type 0) → LeavesOnly moment left_since old new P → ((image : List ℕ) → P image → Q image)
      → LeavesOnly moment left_since old new Q
  weaker old new P Q so_far gives = record {
    later = so_far.later;
    each = λ image left. gives image (so_far.each image left);
    before = λ t image le left. ⊎_elim (λ was. inl was) (λ has. inr (gives image has)) (so_far.before t image le left);
    keeps = so_far.keeps;
  }

  module _ (may_leave : D → List ℕ → Type 0)
      (counts_now : (disk : D) (t : ℕ) (image : List ℕ) → t ≤ moment disk → may_leave disk image → left_since disk t image)
      (only_now : (disk : D) (image : List ℕ) → left_since disk (moment disk) image → may_leave disk image) where
    -- before the first call
    pub started : (disk : D) (P : List ℕ → Type 0) → ((image : List ℕ) → may_leave disk image → P image) → LeavesOnly moment left_since disk disk P
    started disk P here = record { later = omega arith; each = λ image left. here image (only_now disk image left); before = λ t image le left. inl left; keeps = λ t image le was. was }

    -- the images now are among those since the start
    pub has_now : (old new : D) (P : List ℕ → Type 0) → LeavesOnly moment left_since old new P → (image : List ℕ) → may_leave new image → P image
    has_now old new P so_far image left = so_far.each image (counts_now new (moment old) image so_far.later left)

    -- len, read_at and sync
    pub goes_on_still : (old mid new : D) (P : List ℕ → Type 0) → LeavesOnly moment left_since old mid P
        → Elapses (moment mid) (moment new) (left_since mid) (left_since new) (may_leave new) → NoMore (may_leave mid) (may_leave new)
        → LeavesOnly moment left_since old new P
    goes_on_still old mid new P so_far time still =
        goes_on old mid new P (may_leave new) so_far time (λ image left. has_now old mid P so_far image (still image left))

    -- write_at and cut, whatever the images before them
    pub goes_on_step : (step : List ℕ → List ℕ → Type 0) (old mid new : D) (P : List ℕ → Type 0) → LeavesOnly moment left_since old mid P
        → Elapses (moment mid) (moment new) (left_since mid) (left_since new) (may_leave new) → Follows step (may_leave mid) (may_leave new)
        → ((earlier image : List ℕ) → P earlier → step earlier image → P image)
        → LeavesOnly moment left_since old new P
    goes_on_step step old mid new P so_far time follows stays =
        goes_on old mid new P (may_leave new) so_far time (λ image left. let from = follows image left in stays from.0 image (has_now old mid P so_far from.0 from.1) from.2)

    -- write_at where these octets were the only image
    pub goes_on_write : (place n : ℕ) (octets : List ℕ) (old mid new : D) (P : List ℕ → Type 0) → LeavesOnly moment left_since old mid P
        → Elapses (moment mid) (moment new) (left_since mid) (left_since new) (may_leave new) → Follows (Torn place n) (may_leave mid) (may_leave new)
        → Only octets (may_leave mid) → ((image : List ℕ) → Torn place n octets image → P image)
        → LeavesOnly moment left_since old new P
    goes_on_write place n octets old mid new P so_far time follows only torn =
        goes_on old mid new P (may_leave new) so_far time (λ image left. torn image (from_only (Torn place n) octets (may_leave mid) (may_leave new) only follows image left))

    -- cut where these octets were the only image
    pub goes_on_cut : (size : ℕ) (octets : List ℕ) (old mid new : D) (P : List ℕ → Type 0) → LeavesOnly moment left_since old mid P
        → Elapses (moment mid) (moment new) (left_since mid) (left_since new) (may_leave new) → Follows (CutOrNot size) (may_leave mid) (may_leave new)
        → Only octets (may_leave mid) → ((image : List ℕ) → CutOrNot size octets image → P image)
        → LeavesOnly moment left_since old new P
    goes_on_cut size octets old mid new P so_far time follows only cut =
        goes_on old mid new P (may_leave new) so_far time (λ image left. cut image (from_only (CutOrNot size) octets (may_leave mid) (may_leave new) only follows image left))

    -- what a read gives is one of the images, for a disk that tells it
    pub has_seen : (tells : Type 0) (seen : D → List ℕ) → ((disk : D) → tells → may_leave disk (seen disk))
        → (old new : D) (P : List ℕ → Type 0) → LeavesOnly moment left_since old new P → tells → P (seen new)
    has_seen tells seen seen_now old new P so_far told = has_now old new P so_far (seen new) (seen_now new told)

    -- the images before a run are among those since it
    pub had_then : (old new : D) (P : List ℕ → Type 0) → LeavesOnly moment left_since old new P → (image : List ℕ) → may_leave old image → P image
    had_then old new P so_far image left = so_far.each image (so_far.keeps (moment old) image (omega arith) (counts_now old (moment old) image (omega arith) left))

    -- a later part of a run
    pub later_part : ((disk : D) (t u : ℕ) (image : List ℕ) → t ≤ u → left_since disk u image → left_since disk t image)
        → (old mid new : D) (P Q : List ℕ → Type 0) → LeavesOnly moment left_since old new P → LeavesOnly moment left_since old mid Q → moment mid ≤ moment new
        → ((t : ℕ) (image : List ℕ) → t ≤ moment mid → left_since mid t image → left_since new t image)
        → LeavesOnly moment left_since mid new P
    later_part since_earlier old mid new P Q run part later keeps = record {
      later = later;
      each = λ image left. run.each image (since_earlier new (moment old) (moment mid) image part.later left);
      before = λ t image le left. elim (cases_lt (moment old) t) [
        | inl past ↦ inr (run.each image (since_earlier new (moment old) t image (omega arith) left))
        | inr within ↦ ⊎_elim (λ was. inl (part.keeps t image within was)) (λ has. inr has) (run.before t image within left)
      ];
      keeps = keeps;
    }
