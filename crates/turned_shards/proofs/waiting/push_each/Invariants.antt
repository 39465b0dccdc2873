use Rattle.std.proofs.Common.{◌≡◌, ◌++◌, take}
use Rattle.turned_shards.proofs.waiting.push_each.Given as goal

abbrev pub invariant-loop-kept : goal.invariant-loop-kept
invariant-loop-kept l = record {
  count : l.count ≡ l.kept-index;
  pushed : l.writer
      ≡ record l.fn.writer { pending = l.fn.writer.pending ++ take l.kept-index l.records };
}
