use Rattle.std.proofs.Common.{◌≡◌, suc, ◌+◌, ◌-◌, arith, sym, ◌∙◌}
use Rattle.lease_store.specs.Lookups.{is_taken_inside}
use Rattle.plain_store.proofs.LookLemmas.{find_later}
use Rattle.plain_store.proofs.lookups.next_inside.Goals as goal

-- this port isn't taken
pub loop-before-preserved : goal.loop-before-preserved
loop-before-preserved c =
    let less : 65535 - c.loop-before.before ≡ suc (65535 - (c.loop-before.before + 1)) = omega (arith, c.loop-before-test.true) in
    c.loop-before.invariant
    ∙ find_later (is_taken_inside c.args.replay.now.table c.args.m c.args.endpoint.now) (c.loop-before.before + 1) (65535 - c.loop-before.before) (65535 - (c.loop-before.before + 1)) less (sym c.is_taken_inside.ensures ∙ c.if-is_taken_inside.false)
