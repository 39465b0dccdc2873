use Rattle.std.proofs.Common.{◌≡◌, ◌≤◌, ◌-◌, length}
use Rattle.shard_book.proofs.ReplayLemmas.{AreLeft}
use Rattle.journal_sides.specs.Texts.{records_in}
use Rattle.shard_book.proofs.texts.replay_all.Given as goal

abbrev pub invariant-loop-at : goal.invariant-loop-at
invariant-loop-at g l = record {
  ready : g.R.Replay.replaying l.replay;
  within : l.at ≤ length l.texts;
  left : AreLeft l.texts l.at (g.R.Replay.state l.fn.replay) (g.R.Replay.state l.replay) (records_in l.texts);
  lasting : g.R.Replay.lasting l.replay ≡ g.R.Replay.lasting l.fn.replay;
}

abbrev pub decreases-loop-at : goal.decreases-loop-at
decreases-loop-at g l = length l.texts - l.at
