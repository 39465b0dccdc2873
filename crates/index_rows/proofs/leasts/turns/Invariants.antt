use Rattle.std.proofs.Common.{◌≡◌, length}
use Rattle.index_rows.proofs.leasts.turns.Given as goal

abbrev pub invariant-loop-i : goal.invariant-loop-i
invariant-loop-i g l = record {
  alike : length l.leasts ≡ length l.plain;
  all : length l.plain ≡ 16;
}
