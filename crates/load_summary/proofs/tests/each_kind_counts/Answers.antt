use Rattle.std.proofs.Common.{[], ◌∷◌, arith}
use Rattle.load_summary.specs.declared.counts.LoadKind.TheVariants.{Granted, Renewed}
use Rattle.load_summary.proofs.tests.each_kind_counts.Goals as goal

pub with-requires-2 : goal.with-requires-2
with-requires-2 g c = (Granted ∷ [], c.with.ensures [] c.none.ensures, omega arith)

pub with-counts-requires : goal.with-counts-requires
with-counts-requires g c =
    (Granted ∷ Renewed ∷ [], c.with-2.ensures (Granted ∷ []) (c.with.ensures [] c.none.ensures), omega arith)
