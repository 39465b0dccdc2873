use Rattle.std.proofs.Common.{◌≡◌, ◌≤◌, take}
use Rattle.lease_disk.specs.Changes.{steps_of}
use Rattle.lease_disk.specs.Replays.{synced_count}
use Rattle.lease_disk.specs.Steps.{octets_after, up_to_sync}
use Rattle.lease_disk.proofs.replays.synced_count.Given as goal

-- it has counted what ends with the last sync so far
abbrev pub invariant-loop-index : goal.invariant-loop-index
invariant-loop-index l =
    (l.count ≤ l.index)
    × (l.count ≡ synced_count (steps_of (take l.index l.changes)))
    × (octets_after (steps_of (take l.count l.changes)) ≡ octets_after (up_to_sync (steps_of (take l.index l.changes))))
