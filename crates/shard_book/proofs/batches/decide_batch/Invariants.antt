use Rattle.std.proofs.Common.{◌≡◌, ◌≤◌, ◌++◌, drop, length}
use Rattle.std.specs.List.{AllByRecursion}
use Rattle.pcp_base.specs.Apply.{apply_all}
use Rattle.pcp_base.specs.Asks.{IsWellFormedAsk}
use Rattle.pcp_base.specs.Fits.{AllFit}
use Rattle.shard_book.specs.Batches.{answers_at, decide_all, records_kept}
use Rattle.shard_book.specs.Insides.{MayDecideAt}
use Rattle.shard_book.proofs.batches.decide_batch.Given as goal

abbrev pub invariant-loop-ask : goal.invariant-loop-ask
invariant-loop-ask g l = record {
  ready : MayDecideAt (g.S.LeaseStore.terms l.core) (g.S.LeaseStore.state l.core) (g.S.LeaseStore.reached l.core) l.m;
  terms : g.S.LeaseStore.terms l.core ≡ g.S.LeaseStore.terms l.initial.core;
  state : g.S.LeaseStore.state l.core ≡ apply_all (g.S.LeaseStore.state l.initial.core) l.batch.records.items;
  fit : AllFit (g.S.LeaseStore.state l.initial.core) l.batch.records.items;
  few : length l.batch.records.items ≤ l.ask-index;
  address : (g.S.LeaseStore.state l.core).address ≡ (g.S.LeaseStore.state l.initial.core).address;
  formed : AllByRecursion IsWellFormedAsk (drop l.ask-index l.asks);
  answered : l.batch.answers.items ++ answers_at l.m l.base (decide_all (g.S.LeaseStore.terms l.core) (g.S.LeaseStore.state l.core) l.m (drop l.ask-index l.asks))
      ≡ answers_at l.m l.base (decide_all (g.S.LeaseStore.terms l.initial.core) (g.S.LeaseStore.state l.initial.core) l.m l.asks);
  recorded : l.batch.records.items ++ records_kept (decide_all (g.S.LeaseStore.terms l.core) (g.S.LeaseStore.state l.core) l.m (drop l.ask-index l.asks))
      ≡ records_kept (decide_all (g.S.LeaseStore.terms l.initial.core) (g.S.LeaseStore.state l.initial.core) l.m l.asks);
}
