use Rattle.std.proofs.Common.{length, ap, ◌∙◌}
use Rattle.external_pool.proofs.Counted.{length-all_free}
use Rattle.external_pool.proofs.lean_side.note_none_as.Goals as goal

pub set-requires : goal.set-requires
set-requires g c = ap length c.requires ∙ length-all_free 65536
