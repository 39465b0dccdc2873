use Rattle.std.proofs.Common.{Bool, rules, subst}
use Rattle.std.specs.List.Sorted.{IsSortedBy, IsStableBy}
use Rattle.std.proofs.lemmas.List.Sorted.{answers_always}
use Rattle.std.proofs.lemmas.Result.{on_ok_weaker}
use Rattle.pcp_base.specs.declared.leases.Owner.{Owner}
use Rattle.indexed_store.proofs.SortLemmas.{by_precedes, key_of}
use Rattle.indexed_store.proofs.lists.sort.Goals as goal

pub returns-clause-sorted : goal.returns-clause-sorted
returns-clause-sorted c =
    on_ok_weaker c.sort_by_key.result
    (λ by. subst (λ (lt : Owner → Owner → Bool). IsSortedBy lt c.sort_by_key.new.self.items) by_precedes (by key_of (answers_always _ _ _ (λ f a r g h. search rules))))
    c.sort_by_key.ensures.sorted

pub returns-clause-stable : goal.returns-clause-stable
returns-clause-stable c =
    subst (λ (lt : Owner → Owner → Bool). IsStableBy lt c.args.owners.now.items c.sort_by_key.new.self.items) by_precedes
    (c.sort_by_key.ensures.stable key_of (answers_always _ _ _ (λ f a r g h. search rules)))
