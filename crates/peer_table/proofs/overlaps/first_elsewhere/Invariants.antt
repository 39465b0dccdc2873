use Rattle.std.proofs.Common.{◌≡◌, ◌≤◌, ◌+◌, ◌*◌, ℕ, not, length, find, count_by}
use Rattle.std.specs.BTreeMap.{values}
use Rattle.step_count.specs.Levels.{levels}
use Rattle.peer_table.specs.Kept.{PeerKey, has_remote}
use Rattle.peer_table.proofs.overlaps.first_elsewhere.Given as goal

abbrev pub invariant-loop-key : goal.invariant-loop-key
invariant-loop-key g l =
    (find (λ (e : PeerKey × ℕ). not (has_remote l.fn.lease.remote l.fn.lease.remote_port e.0)) l.key-iterator
    ≡ find (λ (e : PeerKey × ℕ). not (has_remote l.fn.lease.remote l.fn.lease.remote_port e.0)) l.initial.key-iterator)
    × (l.steps + count_by (λ (e : PeerKey × ℕ). has_remote l.fn.lease.remote l.fn.lease.remote_port e.0) l.key-iterator * levels (length (values l.fn.kept.leases))
    ≤ l.initial.steps + count_by (λ (e : PeerKey × ℕ). has_remote l.fn.lease.remote l.fn.lease.remote_port e.0) l.initial.key-iterator * levels (length (values l.fn.kept.leases)))
