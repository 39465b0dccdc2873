use Rattle.std.proofs.Common.{◌∙◌, ap, sym, subst}
use Rattle.std.specs.List.Sorted.{IsSortedBy}
use Rattle.std.proofs.lemmas.Result.{IfOk-weaker}
use Rattle.lease_store.specs.OwnerOrder.{in_order, precedes}
use Rattle.indexed_store.proofs.SortLemmas.{stable_same}
use Rattle.indexed_store.proofs.lists.in_order.Goals as goal

pub last_of_each-requires : goal.last_of_each-requires
last_of_each-requires c = subst (IsSortedBy precedes) (sym c.deref.ensures.value) c.in_ok-sort.ensures.sorted

pub returns : goal.returns
returns c =
    IfOk-weaker c.last_of_each.result _ _
    (λ v same. same ∙ ap in_order c.deref.ensures.value ∙ stable_same c.args.owners.items c.sort.new.owners.items c.sort.ensures.stable)
    c.last_of_each.ensures
