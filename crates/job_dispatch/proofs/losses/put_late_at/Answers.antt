use Rattle.job_dispatch.proofs.LossLemmas.{late_at}
use Rattle.job_dispatch.proofs.losses.put_late_at.Goals as goal

pub returns-clause-put : goal.returns-clause-put
returns-clause-put g c =
    late_at c.args.ports.now c.args.shard c.index-ports-shard.result c.put_late.new.port c.put_late.result
    c.requires.shard c.index-ports-shard.is c.put_late.ensures
