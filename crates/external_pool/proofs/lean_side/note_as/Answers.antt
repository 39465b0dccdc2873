use Rattle.std.proofs.Common.{length, ap, sym, ◌∙◌}
use Rattle.external_pool.proofs.Painted.{length-with_run}
use Rattle.external_pool.proofs.lean_side.note_as.Goals as goal

pub set-requires : goal.set-requires
set-requires g c =
    ap length c.requires.items
    ∙ length-with_run c.args.start c.args.n c.args.value c.args.each.now c.requires.within ∙ sym c.len-count.ensures
