use Rattle.journal_sides.proofs.UniqueLaws.{one_reading, one_state, not_blank, not_damaged, blank_not_damaged}
use Rattle.journal_sides.proofs.laws.one_journal.Goals as goal

pub returns : goal.returns
returns c = record {
  one = one_reading;
  state = one_state;
  alone = λ a b f r is. (not_blank a b f r is, not_damaged a b f r is);
  apart = blank_not_damaged;
}
