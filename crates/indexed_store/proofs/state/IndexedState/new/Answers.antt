use Rattle.std.proofs.Common.{ap, ◌∙◌}
use Rattle.pcp_base.specs.declared.leases.MapLease.{MapLease}
use Rattle.ordered_index.specs.Aged.{Aged, no_leases}
use Rattle.indexed_store.specs.Tabled.{tables}
use Rattle.indexed_store.proofs.KeptStates.{fresh-new}
use Rattle.indexed_store.proofs.state.IndexedState.new.Goals as goal

pub returns-clause-new : goal.returns-clause-new
returns-clause-new c =
    let maps = c.in_ok-new.field-0 in let peers = c.in_ok-new-2.field-0 in let terms = c.args.terms.now in
    fresh-new (tables maps peers) c.in_ok-new-3.field-0 c.zero.result c.zero-2.result terms.external.low terms.external.high terms.quota
    (ap (λ (t : Aged MapLease). tables t peers) c.in_ok-new.ensures ∙ ap (tables no_leases) c.in_ok-new-2.ensures)
    c.in_ok-new-3.ensures c.zero.ensures c.zero-2.ensures
