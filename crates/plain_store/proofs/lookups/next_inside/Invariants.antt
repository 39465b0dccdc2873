use Rattle.std.proofs.Common.{◌≡◌, ◌+◌, ◌-◌, find}
use Rattle.std.specs.List.{range_with_len}
use Rattle.lease_store.specs.Lookups.{is_taken_inside}
use Rattle.plain_store.proofs.lookups.next_inside.Given as goal

-- no port so far is taken, so the next one is among the rest
abbrev pub invariant-loop-before : goal.invariant-loop-before
invariant-loop-before l =
    let taken = is_taken_inside l.replay.table l.m l.endpoint in
    find taken (range_with_len (l.endpoint.port + 1) (65535 - l.endpoint.port))
    ≡ find taken (range_with_len (l.before + 1) (65535 - l.before))
