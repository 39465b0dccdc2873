use Rattle.std.proofs.Common.{◌≡◌, ℕ, ◌≤◌, map, take}
use Rattle.std.specs.List.{AllZip, slice_get}
use Rattle.serde_json.specs.View.{view}
use Rattle.journal_dump.specs.Dumps.{IsOnlyRead}
use Rattle.journal_dump.specs.Turns.{AreReadAs}
use Rattle.journal_dump.proofs.dumps.readings_of.Given as goal

abbrev pub invariant-loop-place : goal.invariant-loop-place
invariant-loop-place g l = record {
  values : AreReadAs g.D.LeaseDisk.tells g.D.LeaseDisk.seen (take l.place l.externals) (take l.place l.initial.pairs) (map view l.values.items);
  read : AllZip (IsOnlyRead g.D.LeaseDisk.tells g.D.LeaseDisk.seen g.D.LeaseDisk.moment g.D.LeaseDisk.left_since g.D.LeaseDisk.may_leave g.D.LeaseDisk.faults) l.initial.pairs l.pairs;
  untouched : (k : ℕ) → l.place ≤ k → slice_get l.pairs k ≡ slice_get l.initial.pairs k;
}
