-- The two sides of a pair by name, and what writing to one of them leaves (our own).
use Rattle.std.specs.Prelude.{◌≡◌, ℕ, List}
use Rattle.lease_disk.specs.declared.disks.DiskPair.{DiskPair}
use Rattle.lease_disk.specs.Images.{Only}
use Rattle.journal_sides.specs.declared.sides.Side.{Side}
use Rattle.journal_sides.specs.declared.sides.Side.TheVariants.{A, B}

abbrev pub other : Side → Side
other A = B
other B = A

-- side a has even generations, side b odd ones
abbrev pub side_parity : Side → ℕ
side_parity A = 0
side_parity B = 1

-- what belongs to this side, of what belongs to a and b
abbrev pub of_side : {T : Type 0} → Side → T → T → T
of_side A a b = a
of_side B a b = b

-- a and b, of which a step changed this side alone
pub record ChangesSide (side : Side) (step : List ℕ → List ℕ → Type 0)
    (a b x y : List ℕ) : Type 0 where
  pub changed : step (of_side side a b) (of_side side x y)
  pub unchanged : of_side (other side) x y ≡ of_side (other side) a b

-- no crash leaves anything but what reads give
pub record AreDurable {D : Type 0} (seen : D → List ℕ) (may_leave : D → List ℕ → Type 0)
    (pair : DiskPair D) : Type 0 where
  pub a : Only (seen pair.a) (may_leave pair.a)
  pub b : Only (seen pair.b) (may_leave pair.b)
