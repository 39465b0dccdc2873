use Rattle.leased_ports.proofs.ViewLemmas.{kept_fresh, view_vacated}
use Rattle.leased_ports.proofs.ports.LeasedPorts.new.Goals as goal

pub invariant_of-result : goal.invariant_of-result
invariant_of-result c =
    kept_fresh c.args.low c.args.high c.args.quota c.in_ok-new.field-0 c.in_ok-new-2.field-0 c.in_ok-new-3.field-0 c.in_ok-new.ensures c.in_ok-new-2.ensures c.in_ok-new-3.ensures

pub returns : goal.returns
returns c = view_vacated c.args.low c.args.high c.args.quota c.in_ok-new.field-0 c.in_ok-new.ensures
