use Rattle.std.proofs.Common.{sym, subst, refl}
use Rattle.leased_ports.specs.Leased.{Leased, IsOnTerms}
use Rattle.indexed_store.proofs.KeptStates.{new-indexed, new-kept}
use Rattle.indexed_store.proofs.store.IndexedStore.new.Goals as goal

pub invariant_of-result : goal.invariant_of-result
invariant_of-result c =
    let terms = c.args.terms in let s = c.in_ok-new.field-0 in
    new-indexed c.states_are_sound.ensures.made s c.zero.result terms c.requires c.in_ok-new.ensures.new
    (new-kept c.ports_follow_states.ensures.new s terms.external.low terms.external.high terms.quota c.in_ok-new.ensures.new c.in_ok-new.ensures.ports) c.zero.ensures
    (subst (λ (v : Leased). IsOnTerms v terms) (sym c.in_ok-new.ensures.ports) (record { low = refl; high = refl; quota = refl }))
