use Rattle.std.proofs.Common.{◌∙◌, arith}
use Rattle.job_dispatch.proofs.DispatchingLemmas.{ends_late, ports_kept}
use Rattle.job_dispatch.proofs.dispatching.dispatch.Goals as goal

pub put_all_waiting-requires : goal.put_all_waiting-requires
put_all_waiting-requires g c = record {
  ports = ports_kept _ _ _ _ _ _ _ c.dispatch_items-read.result c.requires.ports c.dispatch_items-read.ensures;
}

pub returns : goal.returns
returns g c =
    ends_late _ _ _ _ _ _ _ _ _ c.dispatch_items-read.result c.dispatch_items-read.ensures c.put_all_waiting.ensures.late c.put_all_waiting.ensures.none
    (c.answer_statuses.ensures.left ∙ c.put_all_waiting.ensures.left)
    (let first = c.put_all_waiting.ensures.later in let second = c.answer_statuses.ensures.later in omega (arith, first, second))
