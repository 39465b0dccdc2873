use Rattle.std.proofs.Common.{inr}
use Rattle.shard_book.proofs.CallLemmas.{if_ok_with, map_if_err}
use Rattle.shard_book.proofs.books.LeaseBook.lose.Goals as goal

pub forget-requires : goal.forget-requires
forget-requires g c = record { settled = c.in_ok-settle_if_refused.ensures.settled.1.fault }

pub returns-clause-lost : goal.returns-clause-lost
returns-clause-lost g c =
    if_ok_with c.forget.result _ _ _ _ c.forget.ensures.count c.forget.ensures.keeps c.forget.ensures.generation (λ count told keeps generation. record {
      mid = c.settle_if_refused.new.self;
      settled = c.in_ok-settle_if_refused.ensures.settled.0;
      settles = c.in_ok-settle_if_refused.ensures.settled.1;
      counted = told;
      keeps = keeps;
      generation = generation;
    })

pub returns-clause-refused : goal.returns-clause-refused
returns-clause-refused g c = map_if_err c.forget.result _ _ c.forget.ensures.refused (λ fault doubts. inr (c.settle_if_refused.new.self, c.in_ok-settle_if_refused.ensures.settled.0, c.in_ok-settle_if_refused.ensures.settled.1, doubts))
