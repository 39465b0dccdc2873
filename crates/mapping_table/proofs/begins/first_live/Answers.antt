use Rattle.std.proofs.Common.{◌≡◌, ◌+◌, length, sym, ap, ◌∙◌, subst, arith}
use Rattle.std.specs.BTreeMap.{values}
use Rattle.step_count.specs.Levels.{levels}
use Rattle.mapping_table.specs.MapLists.{is_live_map}
use Rattle.mapping_table.specs.Kept.{NoneBegins}
use Rattle.mapping_table.proofs.Nexts.{begins-one, passes-one, turn-spent}
use Rattle.mapping_table.proofs.begins.first_live.Goals as goal

pub returns-then-is_live-clause-first : goal.returns-then-is_live-clause-first
returns-then-is_live-clause-first g c =
    let i = c.loop-at.invariant in
    begins-one c.args.kept.now c.requires.kept c.args.m c.args.endpoint.now c.args.from c.args.end c.loop-at.at i.0 i.1 c.in-Some.lease.now c.in-Some.ensures.first
    (sym c.is_live.ensures ∙ c.if-is_live.true)

pub loop-at-preserved : goal.loop-at-preserved
loop-at-preserved g c =
    let i = c.loop-at.invariant in let x = c.in-Some.lease.now in let m = c.args.m in let e = c.args.endpoint.now in
    let lv = levels (length (values c.args.kept.now.leases)) in
    let port : c.from-at.result ≡ x.internal = c.from-at.ensures ∙ c.internal.ensures in
    let next : c.from-at.result + 1 ≡ x.internal + 1 = ap (λ n. n + 1) port in
    let low = c.in-Some.ensures.first.inside.0 in let high = c.in-Some.ensures.first.inside.1 in (
      subst (λ n. NoneBegins (is_live_map m) e c.args.from n (values c.args.kept.now.leases)) (sym next)
          (passes-one c.args.kept.now c.requires.kept m e c.args.from c.args.end c.loop-at.at i.0 x c.in-Some.ensures.first (sym c.is_live.ensures ∙ c.if-is_live.false)),
      (let a = i.1 in omega (arith, a, low, port)),
      omega (arith, high, port),
      turn-spent lv c.args.from c.loop-at.at (c.from-at.result + 1) c.args.steps.now c.loop-at.steps c.first_lease.new.steps i.1 (omega (arith, low, port)) i.3 c.in-Some.ensures.steps,
    )
