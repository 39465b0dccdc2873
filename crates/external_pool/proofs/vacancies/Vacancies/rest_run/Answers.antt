use Rattle.std.proofs.Common.{sym, subst, refl}
use Rattle.external_pool.specs.declared.uses.Use.TheVariants.{Resting}
use Rattle.external_pool.specs.Holdings.{Holdings, pool_of}
use Rattle.external_pool.specs.Kept.{IsCounted}
use Rattle.external_pool.proofs.Counted.{counted_rested, none_held_free}
use Rattle.external_pool.proofs.vacancies.Vacancies.rest_run.Goals as goal

pub invariant_of-self : goal.invariant_of-self
invariant_of-self c =
    let a = c.self.inside in
    let free = rw (← c.self.view_is) at c.requires.free in
    let last = c.args.last.now in
    subst (λ (p : Holdings). IsCounted p a.counts) (sym (c.mark.ensures a.quota))
    (counted_rested (pool_of a.quota a.tcp a.udp) a.counts c.self.invariant last.protocol c.args.external c.args.n (Resting last.address last.port) c.requires.within
    (none_held_free (pool_of a.quota a.tcp a.udp) last.protocol c.args.external c.args.n free) refl)
