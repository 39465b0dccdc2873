-- Syncing both sides before they are read.
use Rattle.std.proofs.Common.{ℕ, ◌≤◌, List, refl}
use Rattle.lease_disk.specs.declared.disks.DiskPair.{DiskPair}
use Rattle.lease_disk.specs.Images.{NoMore}
use Rattle.lease_disk.specs.Moments.{Elapses, LeavesOnly}
use Rattle.lease_disk.proofs.CallLemmas.{started, goes_on_still, weaker}
use Rattle.lease_disk.proofs.PairLemmas.{on_a, on_b, pair_goes_on}
use Rattle.lease_journal.specs.Openings.{LeavesOld}

module _ {D : Type 0} (may_leave : D → List ℕ → Type 0) (moment : D → ℕ) (left_since : D → ℕ → List ℕ → Type 0)
    (counts_now : (disk : D) (t : ℕ) (image : List ℕ) → t ≤ moment disk → may_leave disk image → left_since disk t image)
    (only_now : (disk : D) (image : List ℕ) → left_since disk (moment disk) image → may_leave disk image) where
  one_sync : (old new : D) → Elapses (moment old) (moment new) (left_since old) (left_since new) (may_leave new) → NoMore (may_leave old) (may_leave new) → LeavesOnly moment left_since old new (may_leave old)
  one_sync old new time still = goes_on_still moment left_since may_leave counts_now only_now old old new (may_leave old) (started moment left_since may_leave counts_now only_now old (may_leave old) (λ image left. left)) time still

  pub synced_a : (old : DiskPair D) (a : D) → Elapses (moment old.a) (moment a) (left_since old.a) (left_since a) (may_leave a) → NoMore (may_leave old.a) (may_leave a) → LeavesOld moment left_since may_leave old (record { a = a; b = old.b })
  synced_a old a time still =
      on_a moment left_since may_leave old (record { a = a; b = old.b }) (λ x y. may_leave old.a x × may_leave old.b y) (λ x y left_a left_b. (left_a, left_b)) refl
      (weaker moment left_since old.a a (may_leave old.a) (λ x. (y : List ℕ) → may_leave old.b y → may_leave old.a x × may_leave old.b y) (one_sync old.a a time still) (λ x left y left_b. (left, left_b)))

  pub synced_both : (old : DiskPair D) (a b : D) → Elapses (moment old.a) (moment a) (left_since old.a) (left_since a) (may_leave a) → NoMore (may_leave old.a) (may_leave a)
      → Elapses (moment old.b) (moment b) (left_since old.b) (left_since b) (may_leave b) → NoMore (may_leave old.b) (may_leave b) → LeavesOld moment left_since may_leave old (record { a = a; b = b })
  synced_both old a b time_a still_a time_b still_b =
      let mid : DiskPair D = record { a = a; b = old.b } in
      let new : DiskPair D = record { a = a; b = b } in
      pair_goes_on moment left_since may_leave old mid new (λ x y. may_leave old.a x × may_leave old.b y) (synced_a old a time_a still_a)
      (on_b moment left_since may_leave mid new (λ x y. may_leave old.a x × may_leave old.b y) (λ x y left_a left_b. (still_a x left_a, left_b)) refl
      (weaker moment left_since old.b b (may_leave old.b) (λ y. (x : List ℕ) → may_leave a x → may_leave old.a x × may_leave old.b y) (one_sync old.b b time_b still_b) (λ y left x left_a. (still_a x left_a, left))))
