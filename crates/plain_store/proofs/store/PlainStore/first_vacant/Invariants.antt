use Rattle.std.proofs.Common.{◌≡◌, ◌+◌, ◌-◌, find}
use Rattle.std.specs.List.{range_with_len}
use Rattle.lease_store.specs.Picks.{is_vacant_run, first_vacant}
use Rattle.plain_store.proofs.store.PlainStore.first_vacant.Given as goal

-- from no start so far are all vacant, so the least one is among the rest
abbrev pub invariant-loop-start : goal.invariant-loop-start
invariant-loop-start l =
    first_vacant l.self.terms l.self.state l.self.reached l.protocol l.parity l.n
    ≡ find (is_vacant_run l.self.terms l.self.state l.self.reached l.protocol l.parity l.n)
    (range_with_len l.start (l.self.terms.external.high + 1 - l.start))
