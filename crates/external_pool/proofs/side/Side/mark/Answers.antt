use Rattle.std.proofs.Common.{◌+◌, ◌≤◌, ◌&&◌, length, arith, subst, sym, ap, ◌∙◌, cond, not, Bool}
use Rattle.port_runs.specs.Ports.{is_in_run, is_taken}
use Rattle.external_pool.specs.PortUses.{is_in_range}
use Rattle.external_pool.specs.Kept.{IsKept}
use Rattle.external_pool.proofs.Painted.{painted_items}
use Rattle.external_pool.proofs.KeptLemmas.{kept_settled}
use Rattle.external_pool.proofs.side.Side.mark.Goals as goal

pub invariant_of-self : goal.invariant_of-self
invariant_of-self c =
    let a = c.self.inside in
    let within : c.args.start + c.args.n ≤ length a.each.items = omega (arith, c.requires, c.self.invariant.all) in
    let items = painted_items a.each c.deref_mut.result.now c.paint.new.each c.args.start c.args.n c.args.value c.deref_mut.ensures.value c.paint.ensures within in
    subst (IsKept a.low a.high c.settle_in_range.new.runs) (sym items)
    (kept_settled a.low a.high a.runs a.each.items c.self.invariant c.args.start c.args.n c.args.value within
    c.settle_in_range.new.runs c.settle_in_range.ensures.low c.settle_in_range.ensures.high
    (λ port. c.settle_in_range.ensures.taken port
    ∙ ap (λ (b : Bool). cond (is_in_range a.low a.high port && is_in_run c.args.start c.args.n port) (not b) (is_taken a.runs port)) c.is_free_use.ensures))
