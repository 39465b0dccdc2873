use Rattle.epoch_word.proofs.LawLemmas.{is_greatest, none_heard_more}
use Rattle.epoch_word.proofs.laws.word_is_the_greatest.Goals as goal

pub returns-clause-greatest : goal.returns-clause-greatest
returns-clause-greatest c = is_greatest

pub returns-clause-heard : goal.returns-clause-heard
returns-clause-heard c = none_heard_more

pub returns-clause-raised : goal.returns-clause-raised
returns-clause-raised c = λ first s r. r.some_view

pub returns-clause-shares : goal.returns-clause-shares
returns-clause-shares c = λ first s r. r.whole
