use Rattle.std.proofs.Common.{ℕ, OnOk, sym, subst}
use Rattle.ordered_index.specs.MapSteps.{HasEntry}
use Rattle.ordered_index.specs.Orders.{port_cmp}
use Rattle.ordered_index.specs.Steps.{Replaces}
use Rattle.cascade_ties.proofs.changes.replace.Goals as goal

pub replace-requires-clause-port : goal.replace-requires-clause-port
replace-requires-clause-port c = subst (λ (p : ℕ × ℕ). HasEntry port_cmp c.args.kept.now.ports p c.args.number) (sym c.local_of-local.ensures) c.requires.port

pub returns-clause-ok : goal.returns-clause-ok
returns-clause-ok c =
    subst (λ (p : ℕ × ℕ). OnOk c.replace.result (Replaces port_cmp c.args.kept.now c.replace.new.self c.args.number c.args.tied p p)) c.local_of-local.ensures c.replace.ensures.ok
