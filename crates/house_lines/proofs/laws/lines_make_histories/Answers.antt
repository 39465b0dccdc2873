use Rattle.house_lines.proofs.LawLemmas.{houses-are-of-entries, lines-are-calls, lines-make-histories}
use Rattle.house_lines.proofs.laws.lines_make_histories.Goals as goal

pub returns : goal.returns
returns c = record {
  calls = lines-are-calls;
  histories = lines-make-histories c.calls_make_histories.ensures;
  states = houses-are-of-entries;
}
