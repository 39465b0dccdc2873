use Rattle.std.proofs.Common.{◌≡◌, ◌-◌}
use Rattle.std.specs.List.{list_all, range_with_len}
use Rattle.lease_store.specs.Picks.{is_open_from}
use Rattle.plain_store.proofs.store.PlainStore.are_open.Given as goal

-- each port so far is open, so all are where the rest is
abbrev pub invariant-loop-i : goal.invariant-loop-i
invariant-loop-i l =
    let opened = is_open_from l.self.terms l.self.state l.self.reached l.endpoint l.start in
    list_all opened (range_with_len 0 l.n) ≡ list_all opened (range_with_len l.i (l.n - l.i))
