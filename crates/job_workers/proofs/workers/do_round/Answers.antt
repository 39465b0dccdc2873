use Rattle.std.proofs.Common.{◌∙◌}
use Rattle.job_workers.proofs.WorkLemmas.{HasWorked-of, IsPassOf-after, Works-append, Works-more, routed_batch}
use Rattle.job_workers.proofs.workers.do_round.Goals as goal

pub do_batch-answered-requires-clause-routed : goal.do_batch-answered-requires-clause-routed
do_batch-answered-requires-clause-routed g c = routed_batch _ _ _ _ c.requires.desk.route_is c.gather-next.ensures.routed

pub do_loss-lost-requires : goal.do_loss-lost-requires
do_loss-lost-requires g c = IsPassOf-after _ _ _ _ c.do_batch-answered.ensures.works c.requires.desk.pass_is

pub do_count-counted-requires : goal.do_count-counted-requires
do_count-counted-requires g c =
    let out = c.do_batch-answered.new.out in
    IsPassOf-after _ _ _ _ (c.do_loss-lost.ensures.works (g.O.Outbox.sent out) (g.O.Outbox.faults out))
    (IsPassOf-after _ _ _ _ c.do_batch-answered.ensures.works c.requires.desk.pass_is)

pub returns-clause-works : goal.returns-clause-works
returns-clause-works g c =
    let out = c.do_batch-answered.new.out in
    let sent = g.O.Outbox.sent out in
    let faults = g.O.Outbox.faults out in
    HasWorked-of _ _ _ _ _ _
    (c.do_count-counted.ensures.taker ∙ (c.do_loss-lost.ensures.taker ∙ (c.do_batch-answered.ensures.taker ∙ c.gather-next.ensures.taken)))
    (Works-more _ _ _ _ _
    (Works-append _ _ _ _ _ _ c.do_batch-answered.ensures.works (c.do_loss-lost.ensures.works sent faults))
    (c.do_count-counted.ensures.works sent faults))
