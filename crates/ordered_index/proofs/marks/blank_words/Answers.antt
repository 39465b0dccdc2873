use Rattle.ordered_index.proofs.MarkLemmas.{all_blank}
use Rattle.ordered_index.proofs.marks.blank_words.Goals as goal

pub returns-clause-blank : goal.returns-clause-blank
returns-clause-blank c =
    rw (c.in_ok-words.ensures.items_if_clones_equal (λ y h. h)) (all_blank c.args.count)
