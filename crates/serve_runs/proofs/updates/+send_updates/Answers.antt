use Rattle.std.proofs.Common.{rules}
use Rattle.job_workers.specs.Stations.{OutState}
use Rattle.serve_runs.proofs.UpdateLemmas.{sends-more}
use Rattle.serve_runs.proofs.updates.+send_updates.Goals as goal

pub returns : goal.returns
returns g t c =
    let told : g.row.O.Denot → OutState = λ o. record { sent = g.O.Outbox.sent o; faults = g.O.Outbox.faults o } in
    sends-more told c.args.config.now c.args.place c.args.updates.now c.args.places.now c.front_count-count.result
    c.split_at.result.0.now c.split_at.result.1.now c.split_at-2.result.1.now c.args.outs.now _ _ _ _
    c.in-Some.ensures.cases.0 (search rules) (search rules) (search rules) c.front_count-count.ensures.count
    c.send_own.ensures c.send_updates.ensures
