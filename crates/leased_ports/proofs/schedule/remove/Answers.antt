use Rattle.leased_ports.proofs.StepLemmas.{waits-removed}
use Rattle.leased_ports.proofs.schedule.remove.Goals as goal

pub returns : goal.returns
returns c = waits-removed c.args.wheel.now c.remove.new.self c.args.id c.remove.ensures.removed
