use Rattle.std.proofs.Common.{ap}
use Rattle.cascade_ties.specs.Kept.{rest_in}
use Rattle.cascade_ties.specs.Ties.{Ties}
use Rattle.cascade_ties.proofs.CountLemmas.{counted_back, counted_put, may_count, was_counted}
use Rattle.cascade_ties.proofs.steps.put_counted.Goals as goal

pub raise-requires : goal.raise-requires
raise-requires c = may_count c.args.counts.now _ c.requires.counted c.args.pool.now (rest_in c.args.rests.now) c.requires.kept.pool c.args.tied.tie.client.address

pub lower-requires : goal.lower-requires
lower-requires c = was_counted c.args.counts.now c.raise.new.self c.args.tied.tie.client.address c.in_ok-raise.ensures.ok

pub returns-in-Err-clause-counted : goal.returns-in-Err-clause-counted
returns-in-Err-clause-counted c =
    counted_back c.args.counts.now _ c.requires.counted c.args.tied.tie.client.address c.raise.new.self c.lower.new.self _ c.in_ok-raise.ensures.ok c.lower.ensures
    (ap (λ (z : Ties). z.each) c.in-Err.ensures.ties.err)

pub returns-clause-counted : goal.returns-clause-counted
returns-clause-counted c =
    counted_put c.args.counts.now _ c.requires.counted c.args.tied c.raise.new.self _ c.in_ok-raise.ensures.ok (ap (λ (z : Ties). z.each) c.in_default.ensures.ties.ok)
