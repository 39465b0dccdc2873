use Rattle.std.proofs.Common.{sym, ◌∙◌}
use Rattle.std.specs.BTreeMap.{values}
use Rattle.cascade_ties.proofs.RestLemmas.{still_all}
use Rattle.cascade_ties.proofs.steps.drop_over.Goals as goal

pub returns-clause-ties : goal.returns-clause-ties
returns-clause-ties c =
    sym (still_all c.args.now_ms c.wake_all.new.pool c.wake_all.new.rests (values c.drop_ties.new.kept.leases) c.drop_ties.ensures.all c.wake_all.ensures.all)
    ∙ c.wake_all.ensures.still ∙ c.drop_ties.ensures.still
