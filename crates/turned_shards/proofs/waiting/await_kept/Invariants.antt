use Rattle.std.specs.Prelude.{vec_capacity, vec_len}
use Rattle.std.specs.List.{filter_map}
use Rattle.std.proofs.Common.{◌≡◌, ◌++◌, ◌+◌, ◌≤◌, take}
use Rattle.shard_book.specs.declared.batches.Answered.{Answered}
use Rattle.turned_shards.proofs.waiting.await_kept.Given as goal

abbrev pub invariant-loop-answered : goal.invariant-loop-answered
invariant-loop-answered l = record {
  items : l.waiting.items ≡ l.fn.waiting.items ++ filter_map (λ (a : Answered). a.kept)
      (take l.answered-index l.answers);
  capacity : vec_capacity l.fn.waiting ≤ vec_capacity l.waiting;
  len : vec_len l.waiting ≤ vec_len l.fn.waiting + l.answered-index;
}
