use Rattle.std.proofs.Common.{◌≡◌, ◌-◌}
use Rattle.lease_store.specs.Picks.{longest_run}
use Rattle.plain_store.proofs.store.PlainStore.longest_run.Given as goal

-- no run so far is so long
abbrev pub invariant-loop-less : goal.invariant-loop-less
invariant-loop-less l =
    longest_run l.self.terms l.self.state l.self.reached l.protocol l.parity l.room
    ≡ longest_run l.self.terms l.self.state l.self.reached l.protocol l.parity (l.room - l.less)
