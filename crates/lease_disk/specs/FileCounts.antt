-- What is known of a disk over a file (our own).
use Rattle.std.specs.Prelude.{◌≡◌, ℕ, Bool, true, Result, IsErr}

pub record FileCounts : Type 0 where
  -- how many faults it has counted
  pub faults : ℕ
  -- whether a sync of the file or of its folder failed
  pub lost : Bool

-- once a sync failed, each later call that writes fails, and none makes it whole again
pub record StaysLost {T E : Type 0} (old new : FileCounts) (result : Result T E) : Type 0 where
  pub refused : old.lost ≡ true → IsErr result
  pub lost : old.lost ≡ true → new.lost ≡ true
