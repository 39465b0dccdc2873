use Rattle.std.proofs.Common.{◌≡◌, suc, ◌+◌, ◌-◌, arith, sym, ◌∙◌}
use Rattle.plain_store.proofs.PickLemmas.{shorter, longest}
use Rattle.plain_store.proofs.store.PlainStore.longest_run.Goals as goal

pub loop-less-preserved : goal.loop-less-preserved
loop-less-preserved c =
    let self = c.args.self.now in
    let less = c.loop-less.less in
    let step : c.args.room - less ≡ suc (c.args.room - (less + 1)) = omega (arith, c.loop-less-test.true) in
    c.loop-less.invariant
    ∙ shorter self.terms self.state self.reached c.args.protocol c.args.parity (c.args.room - less) (c.args.room - (less + 1)) step (sym c.in_default.ensures)

pub returns-in-Some : goal.returns-in-Some
returns-in-Some c =
    let self = c.args.self.now in
    let less = c.loop-less.less in
    let step : c.args.room - less ≡ suc (c.args.room - (less + 1)) = omega (arith, c.loop-less-test.true) in
    longest self.terms self.state self.reached c.args.protocol c.args.parity (c.args.room - less) (c.args.room - (less + 1)) c.in-Some.found step (sym c.in-Some.ensures)
    ∙ sym c.loop-less.invariant
