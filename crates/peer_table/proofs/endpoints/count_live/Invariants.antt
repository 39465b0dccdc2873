use Rattle.std.proofs.Common.{◌≡◌, ◌≤◌, ◌+◌, ◌*◌, ℕ, length, count_by}
use Rattle.std.specs.Ordering.{nat_cmp}
use Rattle.std.specs.BTreeMap.{get, values}
use Rattle.step_count.specs.Levels.{levels}
use Rattle.peer_table.specs.PeerLists.{is_live_peer}
use Rattle.peer_table.specs.Kept.{PeerKey, some_that}
use Rattle.peer_table.proofs.endpoints.count_live.Given as goal

abbrev pub invariant-loop-number : goal.invariant-loop-number
invariant-loop-number g l =
    (l.count + count_by (λ (e : PeerKey × ℕ). some_that (is_live_peer l.fn.m) (get nat_cmp l.fn.kept.leases e.1)) l.number-iterator
    ≡ count_by (λ (e : PeerKey × ℕ). some_that (is_live_peer l.fn.m) (get nat_cmp l.fn.kept.leases e.1)) l.initial.number-iterator)
    × (l.steps + length l.number-iterator * levels (length (values l.fn.kept.leases)) ≤ l.initial.steps + length l.initial.number-iterator * levels (length (values l.fn.kept.leases)))
