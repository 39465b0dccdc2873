use Rattle.indexed_store.proofs.store.take.Goals as goal

pub returns-clause-terms : goal.returns-clause-terms
returns-clause-terms g c = λ terms h. c.vacate.ensures.terms terms (c.apply.ensures.terms terms h)
