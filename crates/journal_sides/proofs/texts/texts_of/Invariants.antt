use Rattle.std.proofs.Common.{take}
use Rattle.std.specs.List.{AllByRecursion}
use Rattle.pcp_base.specs.Records.{IsWellFormedRecord}
use Rattle.journal_sides.specs.Texts.{AreTexts}
use Rattle.journal_sides.proofs.texts.texts_of.Given as goal

abbrev pub invariant-loop-record : goal.invariant-loop-record
invariant-loop-record l = record {
  so_far : AreTexts l.texts.items (take l.record-index l.records);
  formed : AllByRecursion IsWellFormedRecord l.records;
}
