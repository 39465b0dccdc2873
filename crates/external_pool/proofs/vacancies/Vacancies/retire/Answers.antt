use Rattle.std.proofs.Common.{sym, subst, refl}
use Rattle.external_pool.specs.declared.uses.Use.TheVariants.{Resting}
use Rattle.external_pool.specs.Holdings.{Holdings, pool_of}
use Rattle.external_pool.specs.Kept.{IsCounted}
use Rattle.external_pool.proofs.Counted.{counted_retired, enough, used_held}
use Rattle.external_pool.proofs.vacancies.Vacancies.retire.Goals as goal

pub lower-requires : goal.lower-requires
lower-requires c =
    let a = c.self.inside in
    let last = c.args.last.now in
    let all = rw (← c.self.view_is) at c.requires.held.held in
    enough (pool_of a.quota a.tcp a.udp) a.counts c.self.invariant last.address last.protocol c.args.external c.args.n c.requires.held.ports.end all

pub note-requires-clause-used : goal.note-requires-clause-used
note-requires-clause-used c =
    let a = c.self.inside in
    let last = c.args.last.now in
    let all = rw (← c.self.view_is) at c.requires.held.held in
    used_held a.quota 0 a.tcp a.udp last.address last.protocol c.args.external c.args.n all

pub invariant_of-self : goal.invariant_of-self
invariant_of-self c =
    let a = c.self.inside in
    let last = c.args.last.now in
    let all = rw (← c.self.view_is) at c.requires.held.held in
    subst (λ (p : Holdings). IsCounted p c.lower.new.self) (sym (c.note.ensures a.quota))
    (counted_retired (pool_of a.quota a.tcp a.udp) a.counts c.self.invariant last.address last.protocol c.args.external c.args.n (Resting last.address last.port) c.requires.held.ports.end all refl c.lower.new.self c.lower.ensures)
