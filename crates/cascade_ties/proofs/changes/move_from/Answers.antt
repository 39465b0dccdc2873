use Rattle.std.proofs.Common.{ℕ, OnOk, sym, subst}
use Rattle.ordered_index.specs.MapSteps.{HasEntry}
use Rattle.ordered_index.specs.Orders.{port_cmp}
use Rattle.ordered_index.specs.Steps.{Replaces}
use Rattle.cascade_ties.specs.Kept.{port_of_tie}
use Rattle.cascade_ties.proofs.changes.move_from.Goals as goal

pub replace-requires-clause-port : goal.replace-requires-clause-port
replace-requires-clause-port c = subst (λ (p : ℕ × ℕ). HasEntry port_cmp c.args.kept.now.ports p c.args.number) (sym c.port_at-from.ensures) c.requires.port

pub returns-clause-ok : goal.returns-clause-ok
returns-clause-ok c =
    subst (λ (p : ℕ × ℕ). OnOk c.replace.result (Replaces port_cmp c.args.kept.now c.replace.new.self c.args.number c.args.tied p (port_of_tie c.args.tied))) c.port_at-from.ensures
    (subst (λ (p : ℕ × ℕ). OnOk c.replace.result (Replaces port_cmp c.args.kept.now c.replace.new.self c.args.number c.args.tied c.port_at-from.result p)) c.local_of-to.ensures c.replace.ensures.ok)
