use Rattle.std.proofs.Common.{◌≡◌, suc, ◌+◌, ◌-◌, arith, sym, ◌∙◌}
use Rattle.lease_store.specs.Picks.{is_vacant_at}
use Rattle.plain_store.proofs.PickLemmas.{all_later, one_fails}
use Rattle.plain_store.proofs.store.PlainStore.are_vacant.Goals as goal

pub loop-port-preserved : goal.loop-port-preserved
loop-port-preserved c =
    let self = c.args.self.now in
    let port = c.loop-port.port in
    let end = c.args.start + c.args.n in
    let vacant = is_vacant_at self.terms self.state self.reached c.args.protocol in
    let less : end - port ≡ suc (end - (port + 1)) = omega (arith, c.loop-port-test.true, c.from-first.ensures) in
    c.loop-port.invariant ∙ all_later vacant port (end - port) (end - (port + 1)) less (sym c.is_vacant_at.ensures ∙ c.if-not-is_vacant_at.false)

pub returns-then-not-is_vacant_at : goal.returns-then-not-is_vacant_at
returns-then-not-is_vacant_at c =
    let self = c.args.self.now in
    let port = c.loop-port.port in
    let end = c.args.start + c.args.n in
    let vacant = is_vacant_at self.terms self.state self.reached c.args.protocol in
    let less : end - port ≡ suc (end - (port + 1)) = omega (arith, c.loop-port-test.true, c.from-first.ensures) in
    one_fails vacant port (end - port) (end - (port + 1)) less (sym c.is_vacant_at.ensures ∙ c.if-not-is_vacant_at.true) ∙ sym c.loop-port.invariant
