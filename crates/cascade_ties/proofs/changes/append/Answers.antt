use Rattle.std.proofs.Common.{ℕ, ap, ◌∙◌, subst}
use Rattle.std.specs.BTreeMap.{get}
use Rattle.ordered_index.specs.Orders.{Place, place_cmp, port_cmp}
use Rattle.ordered_index.specs.Steps.{Appends}
use Rattle.cascade_ties.specs.Kept.{place_of_tie}
use Rattle.cascade_ties.proofs.changes.append.Goals as goal

pub append-requires-clause-step : goal.append-requires-clause-step
append-requires-clause-step c = c.requires.kept.kept.step

pub append-requires-clause-key : goal.append-requires-clause-key
append-requires-clause-key c = ap (get place_cmp c.args.kept.now.keys) c.client_of-client.ensures ∙ c.requires.key

pub append-requires-clause-port : goal.append-requires-clause-port
append-requires-clause-port c = ap (get port_cmp c.args.kept.now.ports) c.local_of-local.ensures ∙ c.requires.port

pub returns-clause-ok : goal.returns-clause-ok
returns-clause-ok c =
    let n = c.in_ok-append.field-0 in (
      n,
      subst (λ (p : ℕ × ℕ). Appends place_cmp port_cmp c.args.kept.now c.append.new.self c.args.tied (place_of_tie c.args.tied) p n) c.local_of-local.ensures
          (subst (λ (k : Place). Appends place_cmp port_cmp c.args.kept.now c.append.new.self c.args.tied k c.local_of-local.result n) c.client_of-client.ensures c.in_ok-append.ensures.ok),
    )
