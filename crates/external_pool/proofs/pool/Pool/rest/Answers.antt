use Rattle.std.proofs.Common.{ap, ◌∙◌, ◌+◌, ◌≤◌, sym, subst, arith, refl}
use Rattle.external_pool.specs.declared.uses.Use.TheVariants.{Free, Resting}
use Rattle.external_pool.specs.declared.uses.Use.{Use}
use Rattle.external_pool.specs.Holdings.{Holdings, pool_of, with_use}
use Rattle.external_pool.specs.Kept.{IsCounted}
use Rattle.external_pool.proofs.Counted.{counted_rested, none_held_at}
use Rattle.external_pool.proofs.pool.Pool.rest.Goals as goal

pub invariant_of-self : goal.invariant_of-self
invariant_of-self c =
    let a = c.self.inside in
    let free = rw (← c.self.view_is) at c.requires in
    let last = c.args.last.now in
    let within : c.args.external + 1 ≤ 65536 = omega (arith, c.ranges.external.fits) in
    subst (λ (p : Holdings). IsCounted p a.counts) (sym (c.mark.ensures a.quota ∙ ap (λ (u : Use). with_use last.protocol c.args.external 1 u (pool_of a.quota a.tcp a.udp)) c.resting.ensures.value))
    (counted_rested (pool_of a.quota a.tcp a.udp) a.counts c.self.invariant last.protocol c.args.external 1 (Resting last.address last.port) within
    (none_held_at (pool_of a.quota a.tcp a.udp) last.protocol c.args.external Free free refl) refl)
