use Rattle.std.proofs.Common.{List, Option, IfSome, sym, subst}
use Rattle.slab.specs.Slab.{values}
use Rattle.port_spans.specs.declared.runs.Run.{Run}
use Rattle.port_spans.specs.Runs.{IsRunAt}
use Rattle.port_spans.proofs.RunLemmas.{are_runs}
use Rattle.port_spans.proofs.spans.Spans.run_at.Goals as goal

pub returns-clause-whole : goal.returns-clause-whole
returns-clause-whole g c =
    subst (λ (rs : List (Run g.row.V.Denot)). IfSome c.run_at.result (IsRunAt rs c.args.place)) c.self.view_is
    (subst (λ (o : Option (Run g.row.V.Denot)). IfSome o (IsRunAt (values c.self.inside.runs) c.args.place)) (sym c.run_at.ensures) (are_runs c.self.inside.slots.items c.self.inside.runs c.self.invariant c.args.place))
