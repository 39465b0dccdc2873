use Rattle.std.proofs.Common.{Option, IfSome, sym, subst}
use Rattle.pcp_base.specs.declared.leases.End.{End}
use Rattle.port_spans.specs.declared.runs.Run.{Run}
use Rattle.leased_ports.specs.Frees.{IsNear}
use Rattle.leased_ports.proofs.timed_ends.run_at.Goals as goal

pub returns-clause-near : goal.returns-clause-near
returns-clause-near c = subst (λ (o : Option (Run End)). IfSome o IsNear) (sym c.run_at.ensures.run) (c.requires c.args.at)
