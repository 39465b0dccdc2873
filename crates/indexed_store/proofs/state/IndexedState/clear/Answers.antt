use Rattle.indexed_store.proofs.KeptStates.{fresh-new}
use Rattle.indexed_store.proofs.state.IndexedState.clear.Goals as goal

pub returns-clause-new : goal.returns-clause-new
returns-clause-new c =
    let v = c.self.inside.ports in
    fresh-new c.clear.new.self c.clear-2.new.self c.zero-self-inside.result c.zero-self-inside-2.result v.low v.high v.quota c.clear.ensures c.clear-2.ensures c.zero-self-inside.ensures c.zero-self-inside-2.ensures
