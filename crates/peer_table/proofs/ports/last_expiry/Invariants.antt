use Rattle.std.proofs.Common.{◌≡◌, ◌≤◌, ◌+◌, ◌*◌, None, length}
use Rattle.std.specs.Ordering.{nat_cmp}
use Rattle.std.specs.BTreeMap.{get, values}
use Rattle.step_count.specs.Levels.{levels}
use Rattle.peer_table.specs.Kept.{expiry_in, last_of}
use Rattle.peer_table.proofs.ports.last_expiry.Given as goal

abbrev pub invariant-loop-number : goal.invariant-loop-number
invariant-loop-number g l =
    (last_of (λ e. expiry_in (get nat_cmp l.fn.kept.leases e.1)) l.last l.number-iterator
    ≡ last_of (λ e. expiry_in (get nat_cmp l.fn.kept.leases e.1)) None l.initial.number-iterator)
    × (l.steps + length l.number-iterator * levels (length (values l.fn.kept.leases)) ≤ l.initial.steps + length l.initial.number-iterator * levels (length (values l.fn.kept.leases)))
