use Rattle.std.proofs.Common.{sym, subst, refl}
use Rattle.external_pool.specs.declared.uses.Use.TheVariants.{Free}
use Rattle.external_pool.specs.Holdings.{Holdings, pool_of}
use Rattle.external_pool.specs.Kept.{IsCounted}
use Rattle.external_pool.proofs.Counted.{counted_rested, none_held_rest}
use Rattle.external_pool.proofs.vacancies.Vacancies.wake_run.Goals as goal

pub invariant_of-self : goal.invariant_of-self
invariant_of-self c =
    let a = c.self.inside in
    let rests = rw (← c.self.view_is) at c.requires.rests in
    subst (λ (p : Holdings). IsCounted p a.counts) (sym (c.mark.ensures a.quota))
    (counted_rested (pool_of a.quota a.tcp a.udp) a.counts c.self.invariant c.args.protocol c.args.external c.args.n Free c.requires.within
    (none_held_rest (pool_of a.quota a.tcp a.udp) c.args.protocol c.args.external c.args.n rests) refl)
