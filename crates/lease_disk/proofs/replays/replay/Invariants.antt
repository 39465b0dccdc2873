use Rattle.std.proofs.Common.{◌≡◌, take}
use Rattle.lease_disk.specs.Changes.{steps_of}
use Rattle.lease_disk.specs.Replays.{with_ff_from}
use Rattle.lease_disk.specs.Steps.{octets_after}
use Rattle.lease_disk.proofs.replays.replay.Given as goal

-- it has made the first changes
abbrev pub invariant-loop-index : goal.invariant-loop-index
invariant-loop-index l = l.octets.items ≡ octets_after (with_ff_from l.plain (steps_of (take l.index l.changes)))
