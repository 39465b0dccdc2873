use Rattle.std.proofs.Common.{◌≡◌, ◌+◌, ◌-◌}
use Rattle.std.specs.List.{list_all, range_with_len}
use Rattle.lease_store.specs.Picks.{is_vacant_at}
use Rattle.plain_store.proofs.store.PlainStore.are_vacant.Given as goal

-- each port so far is vacant, so all are where the rest is
abbrev pub invariant-loop-port : goal.invariant-loop-port
invariant-loop-port l =
    let vacant = is_vacant_at l.self.terms l.self.state l.self.reached l.protocol in
    list_all vacant (range_with_len l.start l.n) ≡ list_all vacant (range_with_len l.port (l.start + l.n - l.port))
