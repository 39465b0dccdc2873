-- What each image has at the end of a run of calls of a pair.
use Rattle.std.proofs.Common.{inl, inr, ℕ, ◌≤◌, List, [], ◌∷◌, sym, subst}
use Rattle.lease_disk.specs.declared.disks.DiskPair.{DiskPair}
use Rattle.lease_disk.specs.Pairs.{HoldsNow, OnOneSide, Leads, PairLeavesOnly}
use Rattle.lease_disk.proofs.CallLemmas.{has_now}

module _ {D : Type 0} (moment : D → ℕ) (left_since : D → ℕ → List ℕ → Type 0) (may_leave : D → List ℕ → Type 0)
    (counts_now : (disk : D) (t : ℕ) (image : List ℕ) → t ≤ moment disk → may_leave disk image → left_since disk t image)
    (only_now : (disk : D) (image : List ℕ) → left_since disk (moment disk) image → may_leave disk image) (P : List ℕ → List ℕ → Type 0) where
  after_side : (old new : DiskPair D) → OnOneSide moment left_since may_leave P old new → HoldsNow may_leave P new
  after_side old new (inl (run, same)) = λ x y left_a left_b. has_now moment left_since may_leave counts_now only_now old.a new.a _ run x left_a y (subst (λ (disk : D). may_leave disk y) same left_b)
  after_side old new (inr (run, same)) = λ x y left_a left_b. has_now moment left_since may_leave counts_now only_now old.b new.b _ run y left_b x (subst (λ (disk : D). may_leave disk x) same left_a)

  after_stretches : (old : DiskPair D) (stretches : List (DiskPair D)) (new : DiskPair D) → HoldsNow may_leave P old → Leads moment left_since may_leave P old stretches new → HoldsNow may_leave P new
  after_stretches old [] new here is = subst (HoldsNow may_leave P) (sym is) here
  after_stretches old (next ∷ more) new here (one, rest) = after_stretches next more new (after_side old next one) rest

  pub holds_after : (old new : DiskPair D) → PairLeavesOnly moment left_since may_leave old new P → HoldsNow may_leave P new
  holds_after old new run = after_stretches old run.stretches new run.starts run.lead
