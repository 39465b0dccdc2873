use Rattle.std.proofs.Common.{◌≡◌, ℕ, ◌+◌, ◌<◌, IsTrue}
use Rattle.external_pool.specs.PortUses.{is_open}
use Rattle.external_pool.proofs.side.Side.goes_back.Given as goal

abbrev pub invariant-loop-i : goal.invariant-loop-i
invariant-loop-i g l =
    ((k : ℕ) → k < l.i → IsTrue (is_open l.self l.who (l.internal + k) (l.start + k))) × (l.steps ≡ l.initial.steps + l.i)
