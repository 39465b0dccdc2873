use Rattle.std.proofs.Common.{◌≡◌, ◌≤◌, ◌-◌}
use Rattle.lease_store.specs.declared.terms.Terms.{Terms}
use Rattle.leased_ports.specs.Leased.{IsOnTerms}
use Rattle.indexed_store.specs.declared.holding.Unowned.TheVariants.{Rests}
use Rattle.indexed_store.specs.Looks.{is_parted}
use Rattle.indexed_store.specs.Runs.{up_to}
use Rattle.indexed_store.specs.Holding.{Holds}
use Rattle.indexed_store.proofs.HoldSteps.{IsPaid}
use Rattle.indexed_store.proofs.holding.hold_run.Given as goal

abbrev pub invariant-loop-done : goal.invariant-loop-done
invariant-loop-done g l = (l.done ≤ l.run.count) × ((terms : Terms) → IsOnTerms l.initial.ports terms → IsOnTerms l.ports terms) × (l.ports.reached ≡ l.m)
    × Holds l.unowned l.m l.leases.found (up_to l.done l.run) l.initial.ports l.ports
    × (l.unowned ≡ Rests → IsPaid (is_parted l.leases.found.peers l.run) l.initial.ports l.ports l.run l.done l.initial.steps l.steps)

abbrev pub decreases-loop-done : goal.decreases-loop-done
decreases-loop-done g l = l.run.count - l.done
