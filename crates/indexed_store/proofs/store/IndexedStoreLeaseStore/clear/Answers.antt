use Rattle.indexed_store.proofs.KeptStates.{new-indexed}
use Rattle.indexed_store.proofs.store.IndexedStoreLeaseStore.clear.Goals as goal

pub invariant_of-self : goal.invariant_of-self
invariant_of-self c =
    let inv = c.self.invariant in
    new-indexed c.states_are_sound.ensures.made c.vacate.new.state c.zero-self-inside.result c.self.inside.terms inv.allowed c.vacate.ensures.new c.vacate.ensures.kept c.zero-self-inside.ensures
    (c.vacate.ensures.terms c.self.inside.terms inv.on)
