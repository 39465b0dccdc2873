use Rattle.std.proofs.Common.{◌≡◌, ◌+◌, ◌≤◌, sym, subst, arith, refl, ap, ◌∙◌}
use Rattle.external_pool.specs.declared.uses.Use.TheVariants.{Free, Resting}
use Rattle.external_pool.specs.Holdings.{Holdings, pool_of}
use Rattle.external_pool.specs.Kept.{IsCounted}
use Rattle.external_pool.specs.Holdings.{use_of}
use Rattle.external_pool.specs.PortUses.{PortUses, use_at}
use Rattle.external_pool.proofs.Counted.{counted_rested, none_held_at}
use Rattle.external_pool.proofs.pool.Pool.wake.Goals as goal

pub invariant_of-self : goal.invariant_of-self
invariant_of-self c =
    let a = c.self.inside in
    let rests : use_of (pool_of a.quota a.tcp a.udp) c.args.protocol c.args.external ≡ Resting c.in-Resting.field-0 c.in-Resting.field-1 =
    ap (λ (p : Holdings). use_of p c.args.protocol c.args.external) c.self.view_is
    ∙ ap (λ (u : PortUses). use_at u.each c.args.external) (sym c.side.ensures) ∙ sym c.use_at.ensures ∙ c.in-Resting.is in
    let within : c.args.external + 1 ≤ 65536 = omega (arith, c.ranges.external.fits) in
    subst (λ (p : Holdings). IsCounted p a.counts) (sym (c.mark.ensures a.quota))
    (counted_rested (pool_of a.quota a.tcp a.udp) a.counts c.self.invariant c.args.protocol c.args.external 1 Free within
    (none_held_at (pool_of a.quota a.tcp a.udp) c.args.protocol c.args.external (Resting c.in-Resting.field-0 c.in-Resting.field-1) rests refl) refl)
