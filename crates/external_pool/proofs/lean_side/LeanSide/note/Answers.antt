use Rattle.std.proofs.Common.{◌+◌, ◌≤◌, length, arith, subst, sym}
use Rattle.external_pool.specs.Kept.{IsKept}
use Rattle.external_pool.proofs.KeptLemmas.{kept_noted}
use Rattle.external_pool.proofs.lean_side.LeanSide.note.Goals as goal

pub invariant_of-self : goal.invariant_of-self
invariant_of-self c =
    let a = c.self.inside in
    let used = rw (← c.self.view_is) at c.requires.used in
    let within : c.args.start + c.args.n ≤ length a.each = omega (arith, c.requires.within, c.self.invariant.all) in
    subst (IsKept a.low a.high a.runs) (sym c.note_as.ensures)
    (kept_noted a.low a.high a.runs a.each c.self.invariant c.args.start c.args.n c.args.value within used c.requires.stays)
