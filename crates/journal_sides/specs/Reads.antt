-- What calls that only read leave of a disk (our own).
use Rattle.std.specs.Prelude.{◌≡◌, ℕ, List}
use Rattle.lease_disk.specs.declared.disks.DiskPair.{DiskPair}
use Rattle.lease_disk.specs.Images.{NoMore}
use Rattle.lease_disk.specs.Moments.{LeavesOnly}

-- no moment has come, and a crash may leave what it might have left before
pub record IsRead {D : Type 0} (moment : D → ℕ) (left_since : D → ℕ → List ℕ → Type 0)
    (may_leave : D → List ℕ → Type 0) (old new : D) : Type 0 where
  pub still : moment new ≡ moment old
  pub run : LeavesOnly moment left_since old new (may_leave old)
  pub images : NoMore (may_leave new) (may_leave old)

pub record ArePairRead {D : Type 0} (moment : D → ℕ) (left_since : D → ℕ → List ℕ → Type 0)
    (may_leave : D → List ℕ → Type 0) (old new : DiskPair D) : Type 0 where
  pub a : IsRead moment left_since may_leave old.a new.a
  pub b : IsRead moment left_since may_leave old.b new.b

-- reads give what they gave before
pub record AreSeenStill {D : Type 0} (seen : D → List ℕ) (old new : DiskPair D) : Type 0 where
  pub a : seen new.a ≡ seen old.a
  pub b : seen new.b ≡ seen old.b
