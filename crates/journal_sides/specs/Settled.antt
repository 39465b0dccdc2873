-- A journal in which nothing is in doubt (our own).
use Rattle.std.specs.Prelude.{ℕ, ◌+◌, ◌^◌, ◌<◌, ◌≤◌, max, List}
use Rattle.pcp_base.specs.States.{State}
use Rattle.lease_disk.specs.declared.disks.DiskPair.{DiskPair}
use Rattle.journal_sides.specs.declared.sides.Side.{Side}
use Rattle.journal_sides.specs.declared.walks.Standing.{Standing}
use Rattle.journal_sides.specs.Journals.{GivesWay}
use Rattle.journal_sides.specs.Judging.{IsStanding}
use Rattle.journal_sides.specs.Writes.{AreDurable, of_side, other, side_parity}

-- of the sides a and b this one counts, and with it they stand for s
pub record StandsBy (side : Side) (standing : Standing) (s : State) (a b : List ℕ) : Type 0 where
  pub counts : IsStanding (side_parity side) (of_side side a b) standing s
  pub gives_way : GivesWay (side_parity (other side)) (of_side (other side) a b) standing.generation

-- this side counts, both are synced, and the journal stands for s
pub record IsSettledBy {D : Type 0} (seen : D → List ℕ) (may_leave : D → List ℕ → Type 0)
    (side : Side) (standing : Standing) (pair : DiskPair D) (s : State) : Type 0 where
  pub sides : StandsBy side standing s (seen pair.a) (seen pair.b)
  pub durable : AreDurable seen may_leave pair

-- with so many octets written behind the closed gate, which is then open
abbrev pub with_frame : Standing → ℕ → Standing
with_frame standing n =
    record standing { end = standing.end + n; length = max standing.length (standing.end + 1 + n) }

-- the walk over a side ends within what a disk may hold
pub record IsInReach (standing : Standing) : Type 0 where
  pub ends : standing.end < 2 ^ 62
  pub long : standing.length ≤ 2 ^ 62
