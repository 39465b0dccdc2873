use Rattle.std.proofs.Common.{◌≡◌, suc, ◌+◌, ◌-◌, arith, sym, ◌∙◌}
use Rattle.lease_store.specs.Picks.{is_open_from}
use Rattle.plain_store.proofs.PickLemmas.{all_later, one_fails}
use Rattle.plain_store.proofs.store.PlainStore.are_open.Goals as goal

pub loop-i-preserved : goal.loop-i-preserved
loop-i-preserved c =
    let self = c.args.self.now in
    let i = c.loop-i.i in
    let opened = is_open_from self.terms self.state self.reached c.args.endpoint.now c.args.start in
    let less : c.args.n - i ≡ suc (c.args.n - (i + 1)) = omega (arith, c.loop-i-test.true) in
    c.loop-i.invariant ∙ all_later opened i (c.args.n - i) (c.args.n - (i + 1)) less (sym (rw (c.from.ensures, c.from-in-loop-i.ensures) at c.is_open_at.ensures) ∙ c.if-not-is_open_at.false)

pub returns-then-not-is_open_at : goal.returns-then-not-is_open_at
returns-then-not-is_open_at c =
    let self = c.args.self.now in
    let i = c.loop-i.i in
    let opened = is_open_from self.terms self.state self.reached c.args.endpoint.now c.args.start in
    let less : c.args.n - i ≡ suc (c.args.n - (i + 1)) = omega (arith, c.loop-i-test.true) in
    one_fails opened i (c.args.n - i) (c.args.n - (i + 1)) less (sym (rw (c.from.ensures, c.from-in-loop-i.ensures) at c.is_open_at.ensures) ∙ c.if-not-is_open_at.true) ∙ sym c.loop-i.invariant
