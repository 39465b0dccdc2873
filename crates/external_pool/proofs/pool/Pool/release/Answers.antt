use Rattle.std.proofs.Common.{sym, subst}
use Rattle.external_pool.specs.Holdings.{Holdings, pool_of}
use Rattle.external_pool.specs.Kept.{IsCounted}
use Rattle.external_pool.proofs.Counted.{counted_released, enough}
use Rattle.external_pool.proofs.pool.Pool.release.Goals as goal

pub lower-requires : goal.lower-requires
lower-requires c =
    let a = c.self.inside in
    let all = rw (← c.self.view_is) at c.requires.held in
    enough (pool_of a.quota a.tcp a.udp) a.counts c.self.invariant c.args.who.now c.args.protocol c.args.start c.args.n c.requires.ports.end all

pub invariant_of-self : goal.invariant_of-self
invariant_of-self c =
    let a = c.self.inside in
    let all = rw (← c.self.view_is) at c.requires.held in
    subst (λ (p : Holdings). IsCounted p c.lower.new.self) (sym (c.mark.ensures a.quota))
    (counted_released (pool_of a.quota a.tcp a.udp) a.counts c.self.invariant c.args.who.now c.args.protocol c.args.start c.args.n c.requires.ports.end all c.lower.new.self c.lower.ensures)
