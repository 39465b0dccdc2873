use Rattle.std.proofs.Common.{◌≡◌, ℕ, ◌-◌, ◌<◌, suc, subst, arith}
use Rattle.lane_index.specs.declared.keys.TheConstants.{BUCKETS}
use Rattle.lane_index.specs.Chains.{IsEnding, IsTold}
use Rattle.lane_index.specs.Keys.{bucket_of, is_keyed}
use Rattle.lane_index.proofs.ChainLemmas.{ending-first, ending-over, told-inside, told-newer, next-less}
use Rattle.lane_index.proofs.ending.end_all.Goals as goal

pub loop-at-init : goal.loop-at-init
loop-at-init c =
    let inside : bucket_of c.args.key.now < BUCKETS = rw (← c.bucket.ensures.exact) c.bucket.ensures.inside in
    (rw (c.last-at.ensures, c.bucket.ensures.exact) (ending-first c.args.key.now c.args.cells.now c.args.keys.now c.requires.keyed inside), c.requires.standing)

pub before-older-requires-clause-inside : goal.before-older-requires-clause-inside
before-older-requires-clause-inside c =
    let h = c.loop-at.invariant.0 in
    let inside = told-inside BUCKETS is_keyed c.loop-at.cells c.loop-at.keys h.chained (bucket_of c.args.key.now) c.loop-at.newer c.loop-at.at h.told in
    omega (arith, inside, h.chained.long)

pub end_one-newer-requires-clause-newer : goal.end_one-newer-requires-clause-newer
end_one-newer-requires-clause-newer c =
    let h = c.loop-at.invariant.0 in
    told-newer BUCKETS is_keyed c.loop-at.cells c.loop-at.keys h.chained (bucket_of c.args.key.now) c.loop-at.newer c.loop-at.at h.told

pub loop-at-smaller : goal.loop-at-smaller
loop-at-smaller c =
    let h = c.loop-at.invariant.0 in
    let at : ℕ = c.loop-at.at - 1 in
    let is : c.loop-at.at ≡ suc at = omega (arith, c.loop-at-test.true) in
    let less = next-less BUCKETS is_keyed c.loop-at.cells c.loop-at.keys h.chained (bucket_of c.args.key.now) c.loop-at.newer at
    (subst (λ (n : ℕ). IsTold (is_keyed (bucket_of c.args.key.now)) (bucket_of c.args.key.now) c.loop-at.cells c.loop-at.keys c.loop-at.newer n) is h.told) in
    omega (arith, less, is, c.before-older.ensures)

pub returns-clause-ended : goal.returns-clause-ended
returns-clause-ended c =
    let at : c.loop-at.at ≡ 0 = omega (arith, c.loop-at-test.false) in
    ending-over c.args.key.now c.args.cells.now c.loop-at.cells c.loop-at.keys c.loop-at.newer
    (subst (λ (n : ℕ). IsEnding c.args.key.now c.args.cells.now c.loop-at.cells c.loop-at.keys c.loop-at.newer n) at c.loop-at.invariant.0)
