use Rattle.std.proofs.Common.{Some, None, refl}
use Rattle.external_pool.specs.PortUses.{uses_over}
use Rattle.external_pool.proofs.KeptLemmas.{least_vacant, first_none, first_found}
use Rattle.external_pool.proofs.vacant.first.Goals as goal

pub returns-in_default-clause-longest : goal.returns-in_default-clause-longest
returns-in_default-clause-longest g c low high each kept =
    let uses = uses_over low high each in
    first_none uses c.args.parity (least_vacant low high c.args.runs.now each kept uses refl c.args.parity 1 None c.in_default.ensures.found)

pub returns-clause-longest : goal.returns-clause-longest
returns-clause-longest g c low high each kept =
    let uses = uses_over low high each in
    first_found uses c.args.parity c.in-Some.start (least_vacant low high c.args.runs.now each kept uses refl c.args.parity 1 (Some c.in-Some.start) c.in-Some.ensures.found)
