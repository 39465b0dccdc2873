use Rattle.lease_journal.proofs.journals.Journal.again.Goals as goal

pub returns-clause-found : goal.returns-clause-found
returns-clause-found g c = rw (← c.self.view_is) c.in_ok-opened.ensures.found

pub returns-clause-still : goal.returns-clause-still
returns-clause-still g c = rw (← c.self.view_is) c.in_ok-opened.ensures.still

pub returns-clause-opens : goal.returns-clause-opens
returns-clause-opens g c = rw (← c.self.view_is) c.in_ok-opened.ensures.opens
