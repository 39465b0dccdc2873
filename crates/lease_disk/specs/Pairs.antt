-- The two sides of a journal over time (our own). A crash leaves an image of each side.
use Rattle.std.specs.Prelude.{◌≡◌, ◌≤◌, ◌⊎◌, ℕ, List, [], ◌∷◌}
use Rattle.lease_disk.specs.declared.disks.DiskPair.{DiskPair}
use Rattle.lease_disk.specs.Moments.{LeavesOnly}
use Rattle.pcp_io.specs.Faults.{HasRisen}

-- each two images of the sides at this moment have P
abbrev pub HoldsNow : {D : Type 0} → (D → List ℕ → Type 0) → (List ℕ → List ℕ → Type 0) → DiskPair D → Type 0
HoldsNow may_leave P pair = (x y : List ℕ) → may_leave pair.a x → may_leave pair.b y → P x y

-- Calls on one side alone. At each moment of them each image of that side, beside each of the other,
-- has P.
abbrev pub OnOneSide : {D : Type 0} → (D → ℕ) → (D → ℕ → List ℕ → Type 0) → (D → List ℕ → Type 0)
    → (List ℕ → List ℕ → Type 0) → DiskPair D → DiskPair D → Type 0
OnOneSide moment left_since may_leave P old new =
    (LeavesOnly moment left_since old.a new.a (λ x. (y : List ℕ) → may_leave old.b y → P x y)
    × (new.b ≡ old.b))
    ⊎ (LeavesOnly moment left_since old.b new.b (λ y. (x : List ℕ) → may_leave old.a x → P x y)
    × (new.a ≡ old.a))

-- one stretch of such calls after the other leads from old to new
abbrev pub Leads : {D : Type 0} → (D → ℕ) → (D → ℕ → List ℕ → Type 0) → (D → List ℕ → Type 0)
    → (List ℕ → List ℕ → Type 0) → DiskPair D → List (DiskPair D) → DiskPair D → Type 0
Leads moment left_since may_leave P old [] new = new ≡ old
Leads moment left_since may_leave P old (next ∷ more) new =
    OnOneSide moment left_since may_leave P old next × Leads moment left_since may_leave P next more new

-- each two images of the sides at any moment from old to new have P
pub record PairLeavesOnly {D : Type 0} (moment : D → ℕ) (left_since : D → ℕ → List ℕ → Type 0)
    (may_leave : D → List ℕ → Type 0) (old new : DiskPair D)
    (P : List ℕ → List ℕ → Type 0) : Type 0 where
  pub starts : HoldsNow may_leave P old
  pub stretches : List (DiskPair D)
  pub lead : Leads moment left_since may_leave P old stretches new

-- the counts of faults of the sides haven't fallen, and where the call failed one of them has risen
pub record PairHasCause {D : Type 0} (faults : D → ℕ) (old new : DiskPair D) (fails : Type 0) : Type 0 where
  pub later_a : faults old.a ≤ faults new.a
  pub later_b : faults old.b ≤ faults new.b
  pub risen : fails → HasRisen (faults old.a) (faults new.a) ⊎ HasRisen (faults old.b) (faults new.b)

-- the counts of faults of the sides stand still
pub record PairIsQuiet {D : Type 0} (faults : D → ℕ) (old new : DiskPair D) : Type 0 where
  pub still_a : faults new.a ≡ faults old.a
  pub still_b : faults new.b ≡ faults old.b
