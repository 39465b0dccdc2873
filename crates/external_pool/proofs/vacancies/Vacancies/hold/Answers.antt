use Rattle.std.proofs.Common.{sym, subst, arith}
use Rattle.external_pool.specs.Holdings.{Holdings, pool_of}
use Rattle.external_pool.specs.Kept.{IsCounted}
use Rattle.external_pool.proofs.Counted.{counted_held, few_held}
use Rattle.external_pool.proofs.vacancies.Vacancies.hold.Goals as goal

pub raise-requires : goal.raise-requires
raise-requires c =
    let a = c.self.inside in
    let few = few_held (pool_of a.quota a.tcp a.udp) a.counts c.self.invariant c.args.who.now in
    omega (arith, few, c.requires.ports.end)

pub invariant_of-self-2 : goal.invariant_of-self-2
invariant_of-self-2 c =
    let a = c.self.inside in
    let none = rw (← c.self.view_is) at c.requires.none_held in
    subst (λ (p : Holdings). IsCounted p c.raise.new.self) (sym (c.mark.ensures a.quota))
    (counted_held (pool_of a.quota a.tcp a.udp) a.counts c.self.invariant c.args.who.now c.args.protocol c.args.start c.args.n c.requires.ports.end none c.raise.new.self c.in_ok-raise.ensures.ok)
