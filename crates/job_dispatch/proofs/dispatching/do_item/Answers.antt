use Rattle.std.proofs.Common.{◌≢◌, ◌∙◌, arith, rules}
use Rattle.pcp_io.specs.declared.inboxes.Incoming.TheVariants as Incomings
use Rattle.job_dispatch.proofs.DispatchingLemmas.{item_turn_begun}
use Rattle.job_dispatch.proofs.dispatching.do_item.Goals as goal

pub returns : goal.returns
returns g c =
    let on : c.in_ok-incoming.incoming ≢ Incomings.Stop = search rules in
    let took = c.take.ensures.cause.later in
    let reached = c.reach.ensures.later in
    let handed = c.dispatch_item.ensures.later in
    item_turn_begun _ _ _ _ _ _ c.in_ok-incoming.incoming c.take.new.room c.announce-time.result c.begin.new.self _ c.begin.ensures
    (c.dispatch_item.ensures.left ∙ c.reach.ensures.left) c.in_ok-incoming.ensures.takes.next (omega (arith, took, reached, handed)) on c.announce-time.ensures c.dispatch_item.ensures.fate
