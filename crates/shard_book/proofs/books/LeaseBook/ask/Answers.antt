use Rattle.std.proofs.Common.{inr}
use Rattle.shard_book.proofs.CallLemmas.{if_ok_with, map_if_err}
use Rattle.shard_book.proofs.books.LeaseBook.ask.Goals as goal

pub serve_one-requires-clause-settled : goal.serve_one-requires-clause-settled
serve_one-requires-clause-settled g c = c.in_ok-settle_if_refused.ensures.settled.1.fault

pub returns-clause-served : goal.returns-clause-served
returns-clause-served g c =
    if_ok_with c.serve_one.result _ _ _ _ c.serve_one.ensures.answer c.serve_one.ensures.keeps c.serve_one.ensures.journal (λ answer told keeps journal. record {
      mid = c.settle_if_refused.new.self;
      settled = c.in_ok-settle_if_refused.ensures.settled.0;
      settles = c.in_ok-settle_if_refused.ensures.settled.1;
      answered = told;
      keeps = keeps;
      journal = journal;
    })

pub returns-clause-refused : goal.returns-clause-refused
returns-clause-refused g c = map_if_err c.serve_one.result _ _ c.serve_one.ensures.refused (λ fault doubts. inr (c.settle_if_refused.new.self, c.in_ok-settle_if_refused.ensures.settled.0, c.in_ok-settle_if_refused.ensures.settled.1, doubts))
