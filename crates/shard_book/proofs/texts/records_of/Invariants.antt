use Rattle.std.proofs.Common.{◌≤◌, ◌-◌, length}
use Rattle.shard_book.proofs.ReplayLemmas.{AreRead}
use Rattle.journal_sides.specs.Texts.{records_in}
use Rattle.shard_book.proofs.texts.records_of.Given as goal

abbrev pub invariant-loop-at : goal.invariant-loop-at
invariant-loop-at l = record {
  within : l.at ≤ length l.texts;
  read : AreRead l.texts l.at l.records.items (records_in l.texts);
}

abbrev pub decreases-loop-at : goal.decreases-loop-at
decreases-loop-at l = length l.texts - l.at
