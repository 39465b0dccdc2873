use Rattle.job_dispatch.proofs.LossLemmas.{offers_loss_at}
use Rattle.job_dispatch.proofs.losses.offer_loss_at.Goals as goal

pub returns : goal.returns
returns g c =
    offers_loss_at c.args.ports.now c.args.shard c.index-ports-shard.result c.offer_loss.new.port c.offer_loss.result
    c.requires.shard c.index-ports-shard.is c.offer_loss.ensures
