use Rattle.leased_ports.proofs.falls.fall.Goals as goal

pub see_to-requires-clause-due : goal.see_to-requires-clause-due
see_to-requires-clause-due g c = let next = c.in-Some.ensures.next in record { expiry = next.expiry; expires = next.expires; due = next.due }
