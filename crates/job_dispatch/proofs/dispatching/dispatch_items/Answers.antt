use Rattle.std.proofs.Common.{◌≡◌, true, false, Ok, Err, Result, Bool, rules}
use Rattle.pcp_base.specs.declared.errors.Failed.{Failed}
use Rattle.job_dispatch.proofs.DispatchingLemmas.{ends_by_fault, ends_by_stop, turn_on}
use Rattle.job_dispatch.proofs.dispatching.dispatch_items.Goals as goal

pub loop-preserved : goal.loop-preserved
loop-preserved g c =
    let is : c.do_item.result ≡ Ok true = search rules in (
      tt,
      tt,
      turn_on _ _ _ _ _ _ _ _ _ _ _ c.do_item.result c.loop.invariant.2 c.put_waiting.ensures.late c.put_waiting.ensures.ports
          c.put_waiting.ensures.left c.put_waiting.ensures.later c.do_item.ensures is,
    )

pub returns-then-not-more : goal.returns-then-not-more
returns-then-not-more g c =
    let is : c.do_item.result ≡ Ok false = search rules in
    ends_by_stop _ _ _ _ _ _ _ _ _ _ _ c.do_item.result c.loop.invariant.2 c.put_waiting.ensures.late c.put_waiting.ensures.left c.do_item.ensures is

pub returns-in_err-more : goal.returns-in_err-more
returns-in_err-more g c =
    let is : ◌≡◌ {A = Result Bool Failed} c.do_item.result (Err c.in_err-more.field-0.0) = search rules in
    let told : ◌≡◌ {A = Result (Unit {0}) Failed} c.from_residual.result (Err c.in_err-more.field-0.0) = search rules in
    rw told (ends_by_fault _ _ _ _ _ _ _ _ _ _ _ c.do_item.result c.in_err-more.field-0.0 c.loop.invariant.2 c.put_waiting.ensures.late
    c.put_waiting.ensures.left c.put_waiting.ensures.later c.do_item.ensures is)
