use Rattle.std.proofs.Common.{◌≡◌, take}
use Rattle.lease_store.specs.declared.terms.Terms.{Terms}
use Rattle.leased_ports.specs.Leased.{IsOnTerms}
use Rattle.indexed_store.specs.Holding.{AreHeld}
use Rattle.indexed_store.proofs.first.hold_all.Given as goal

abbrev pub invariant-loop-run : goal.invariant-loop-run
invariant-loop-run g l = ((terms : Terms) → IsOnTerms l.initial.ports terms → IsOnTerms l.ports terms) × (l.ports.reached ≡ l.m)
    × AreHeld l.leases.found (take l.run-index l.runs) l.initial.ports l.ports
