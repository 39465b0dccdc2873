use Rattle.std.proofs.Common.{◌≡◌, false}
use Rattle.lease_journal.specs.Views.{IsSettled}
use Rattle.journal_rows.proofs.acts.act_all.Given as goal

-- no deed has failed yet
abbrev pub invariant-loop-number : goal.invariant-loop-number
invariant-loop-number g l =
    (l.journal.unread ≡ false) × IsSettled g.D.LeaseDisk.seen g.D.LeaseDisk.may_leave l.journal l.replay
