use Rattle.job_dispatch.proofs.DispatchLemmas.{offers_at}
use Rattle.job_dispatch.proofs.ports.offer_at.Goals as goal

pub returns : goal.returns
returns g c =
    offers_at c.args.ports.now c.args.is_noise c.args.shard c.args.job c.index-ports-shard.result c.offer.new.port _ _
    c.requires.shard c.index-ports-shard.is c.offer.ensures
