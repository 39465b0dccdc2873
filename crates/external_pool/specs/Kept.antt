-- What is kept beside the uses of ports: which of the range are taken, and how many ports each
-- address holds (our own).
use Rattle.std.specs.Prelude.{◌≡◌, ℕ, ◌&&◌, not, List, length}
use Rattle.pcp_base.specs.declared.addresses.Address.{Address}
use Rattle.port_runs.specs.Ports.{Ports, is_taken}
use Rattle.external_pool.specs.PortUses.{is_free_use, is_in_range, use_at}
use Rattle.external_pool.specs.Holdings.{Holdings, IsWhole, ports_held}
use Rattle.external_pool.specs.HeldCounts.{HeldCounts, held_by}
use Rattle.external_pool.specs.declared.uses.Use.{Use}

-- the taken ports are those of the range that are held or at rest
pub record IsKept (low high : ℕ) (runs : Ports) (each : List Use) : Type 0 where
  pub all : length each ≡ 65536
  pub same_low : runs.low ≡ low
  pub same_high : runs.high ≡ high
  pub taken : (port : ℕ) →
      is_taken runs port ≡ (is_in_range low high port && not (is_free_use (use_at each port)))

-- each side has a use for each port number, and the counts are those of the ports held
pub record IsCounted (pool : Holdings) (counts : HeldCounts) : Type 0 where
  pub whole : IsWhole pool
  pub counted : (who : Address) → held_by counts who ≡ ports_held pool who
