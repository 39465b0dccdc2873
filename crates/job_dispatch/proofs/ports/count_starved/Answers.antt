use Rattle.job_dispatch.proofs.DispatchLemmas.{starves_at}
use Rattle.job_dispatch.proofs.ports.count_starved.Goals as goal

pub returns : goal.returns
returns c =
    starves_at c.args.ports.now c.index-ports-0.result c.starve.new.port
    c.requires c.index-ports-0.is c.starve.ensures
