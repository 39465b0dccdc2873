use Rattle.std.proofs.Common.{◌≡◌, suc, ◌+◌, ◌-◌, arith, ap, sym, ◌∙◌}
use Rattle.lease_store.specs.Picks.{is_vacant_run}
use Rattle.lease_store.specs.Stores.{Stored}
use Rattle.plain_store.proofs.LookLemmas.{find_later}
use Rattle.plain_store.proofs.store.PlainStore.first_vacant.Goals as goal

-- from this start not all are vacant
pub loop-start-preserved : goal.loop-start-preserved
loop-start-preserved c =
    let self = c.args.self.now in
    let start = c.loop-start.start in
    let high = self.terms.external.high in
    let same : c.self.inside.terms.external.high ≡ high = ap (λ (x : Stored). x.terms.external.high) c.self.view_is in
    let test = is_vacant_run self.terms self.state self.reached c.args.protocol c.args.parity c.args.n in
    let less : high + 1 - start ≡ suc (high + 1 - (start + 1)) = omega (arith, same) in
    c.loop-start.invariant
    ∙ find_later test start (high + 1 - start) (high + 1 - (start + 1)) less (sym c.is_vacant_run.ensures ∙ c.if-is_vacant_run.false)
