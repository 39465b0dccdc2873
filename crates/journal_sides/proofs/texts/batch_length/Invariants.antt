use Rattle.journal_sides.specs.Texts.{AreBehind, records_in}
use Rattle.journal_sides.proofs.texts.batch_length.Given as goal

abbrev pub invariant-loop-read : goal.invariant-loop-read
invariant-loop-read l = AreBehind l.texts (records_in l.texts) l._read l.at
