use Rattle.std.proofs.Common.{◌≤◌, arith}
use Rattle.step_count.specs.Levels.{levels}
use Rattle.external_pool.proofs.SlotLemmas.{few_levels}
use Rattle.external_pool.proofs.host_counts.HostCounts.looks.Goals as goal

pub returns-clause-most : goal.returns-clause-most
returns-clause-most c =
    let few : levels c.len.result ≤ 63 = few_levels c.len.result c.len.ensures.small in
    omega (arith, few, c.levels.ensures)
