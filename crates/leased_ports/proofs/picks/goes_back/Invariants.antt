use Rattle.std.proofs.Common.{◌≡◌, ℕ, ◌+◌, ◌<◌, IsTrue}
use Rattle.external_pool.specs.PortUses.{is_open}
use Rattle.leased_ports.specs.Plain.{uses_by}
use Rattle.leased_ports.proofs.picks.goes_back.Given as goal

abbrev pub invariant-loop-i : goal.invariant-loop-i
invariant-loop-i g l =
    ((k : ℕ) → k < l.i → IsTrue (is_open (uses_by l.low l.high l.m l.ends l.endpoint.protocol) l.endpoint.address (l.endpoint.port + k) (l.start + k))) × (l.steps ≡ l.initial.steps + l.i)
