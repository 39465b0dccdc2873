use Rattle.std.proofs.Common.{◌≡◌, ◌≤◌, length}
use Rattle.job_dispatch.proofs.LossLemmas.{HasPutLate}
use Rattle.job_dispatch.proofs.losses.put_waiting.Given as goal

abbrev pub invariant-loop-shard : goal.invariant-loop-shard
invariant-loop-shard g l = record {
  put : HasPutLate l.config l.queues l.fn.ports l.ports;
  count : length l.ports ≡ length l.fn.ports;
  left : g.I.Inbox.left l.inbox ≡ g.I.Inbox.left l.fn.inbox;
  later : g.I.Inbox.faults l.fn.inbox ≤ g.I.Inbox.faults l.inbox;
}
