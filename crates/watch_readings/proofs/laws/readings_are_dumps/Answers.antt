use Rattle.watch_readings.proofs.ReadingLemmas.{once-is_dump}
use Rattle.watch_readings.proofs.laws.readings_are_dumps.Goals as goal

pub returns : goal.returns
returns c = once-is_dump c.one_journal.ensures.state c.one_journal.ensures.alone c.one_journal.ensures.apart
