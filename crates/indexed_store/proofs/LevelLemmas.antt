-- The levels of tables are no more than those of as many leases as may be.
use Rattle.std.proofs.Common.{◌≡◌, ℕ, ◌+◌, ◌<◌, ◌≤◌, ◌^◌, length, arith}
use Rattle.step_count.specs.Levels.{levels}
use Rattle.step_count.specs.Laws.{LevelsGrow}
use Rattle.pcp_base.specs.declared.leases.TheConstants.{MOST_LEASES}
use Rattle.pcp_base.specs.Tables.{Table}
use Rattle.indexed_store.specs.Tabled.{AreTabled}

module _ (grow : LevelsGrow) (t : Table) (tabled : AreTabled t) where
  pub maps-levels : levels (length t.maps) ≤ levels MOST_LEASES
  maps-levels = let few = tabled.few in grow (length t.maps) MOST_LEASES (omega (arith, few)) (omega arith)

  pub peers-levels : levels (length t.peers) ≤ levels MOST_LEASES
  peers-levels = let few = tabled.few in grow (length t.peers) MOST_LEASES (omega (arith, few)) (omega arith)
